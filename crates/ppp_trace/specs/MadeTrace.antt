-- The trace that is made from a number. By turns a drawn link does the next step of its life, until there are as many lines as are wanted.
use Rattle.std.specs.Prelude.{ℕ, zero, suc, ◌+◌, ◌-◌, ◌*◌, ◌/◌, ◌%◌, ◌==◌, false, if◌then◌else◌, List, [], ◌∷◌, ◌++◌, length, min, take, drop, codes, replicate, slice_set, slice_index_or}
use Rattle.std.specs.Fmt.{decimal}
use Rattle.std.specs.Int.{w32, to_be_bytes}
use Rattle.ppp_base.specs.Hex.{lower_digit}
use Rattle.ppp_base.specs.RandomWords.{next_state, next_word}
use Rattle.ppp_base.specs.declared.send_settings.SendSettings.{SendSettings}
use Rattle.ppp_hdlc.specs.Encoding.{encoding}
use Rattle.ppp_trace.specs.declared.life.LifeStep.{LifeStep}
use Rattle.ppp_trace.specs.declared.life.LifeStep.TheVariants as does

-- ---- a life

-- what a link does, in its order; all lives but the first begin with the second
abbrev pub life : List LifeStep
life = does.Begin ∷ does.DialOk ∷ does.Sent ∷ does.AsksLcp ∷ does.AcksLcp ∷ does.Carry ∷ does.Sent ∷ does.AsksIp ∷ does.AcksIp ∷ does.Carry
    ∷ does.FirstEnds ∷ does.Packet ∷ does.Carry ∷ does.Sent ∷ does.Datagram ∷ does.Carry ∷ does.Terminates ∷ does.Carry ∷ does.SecondEnds ∷ does.LineEnd ∷ []

-- the place in a life of a link that has done so many steps, and the life's number
abbrev pub place_of : ℕ → ℕ
place_of done = if done == 0 then 0 else 1 + (done - 1) % 19

unfoldable pub step_of : ℕ → LifeStep
step_of done = slice_index_or life (place_of done) does.Begin

unfoldable pub life_of : ℕ → ℕ
life_of done = if done == 0 then 1 else 1 + (done - 1) / 19

-- ---- lines

-- the state of the generator of words, how many lines are left, and the lines so far
pub record Made : Type 0 where
  pub words : ℕ
  pub left : ℕ
  pub text : List ℕ

-- one line more, where one is left
abbrev pub said : List ℕ → Made → Made
said line m = if m.left == 0 then m else record { words = m.words; left = m.left - 1; text = m.text ++ (line ++ 10 ∷ []) }

abbrev pub hex_text : List ℕ → List ℕ
hex_text [] = []
hex_text (octet ∷ octets) = lower_digit (octet / 16) ∷ lower_digit (octet % 16) ∷ hex_text octets

-- a line that begins with the link's number
abbrev pub link_line : ℕ → List ℕ → List ℕ
link_line link words = [] ++ (decimal link ++ words)

abbrev pub hears : ℕ → List ℕ → List ℕ
hears link octets = link_line link (codes " rx ") ++ hex_text octets

-- how frames are sent before anything is agreed on
abbrev pub plain : SendSettings
plain = record { map = 4294967295; pfc = false; acfc = false }

-- a word is drawn: its octets, the most significant first, and what is made behind it
unfoldable pub word_octets : Made → List ℕ
word_octets m = to_be_bytes w32 (next_word m.words)

unfoldable pub after_word : Made → Made
after_word m = record m { words = next_state m.words }

-- Octets come in two pieces; the next word tells where they are cut.
abbrev pub cut_of : ℕ → List ℕ → ℕ
cut_of word octets = 1 + word % (length octets - 1)

unfoldable pub in_pieces : ℕ → List ℕ → Made → Made
in_pieces link octets m =
    let cut = cut_of (next_word m.words) octets in
    said (hears link (drop cut octets)) (said (hears link (take cut octets)) (after_word m))

abbrev pub heard : ℕ → ℕ → List ℕ → Made → Made
heard link protocol information = in_pieces link (encoding plain protocol information)

-- the octets of five words
abbrev pub five_words : Made → List ℕ
five_words m =
    (((word_octets m ++ word_octets (after_word m)) ++ word_octets (after_word (after_word m))) ++ word_octets (after_word (after_word (after_word m))))
    ++ word_octets (after_word (after_word (after_word (after_word m))))

abbrev pub drawn : Made → Made
drawn m = after_word (after_word (after_word (after_word (after_word m))))

-- a datagram for the peer of the link's unit
abbrev pub packet_line : ℕ → List ℕ → List ℕ
packet_line link octets = (codes "packet " ++ (decimal (link - 1) ++ codes " ")) ++ hex_text octets

-- The end of a job of the link's unit, which has the number before the link's.
abbrev pub script_ends : ℕ → ℕ → List ℕ
script_ends link job = (codes "unit " ++ (decimal (link - 1) ++ codes " hook ")) ++ (decimal job ++ codes " exit 0")

-- what a link does in this life
unfoldable pub lived : ℕ → ℕ → LifeStep → Made → Made
lived link number does.Begin m = said (link_line link (codes " begin")) m
lived link number does.DialOk m = said (link_line link (codes " dial ok")) m
lived link number does.Sent m = said (link_line link (codes " sent ok")) m
lived link number does.AsksLcp m = heard link 0xc021 (1 ∷ 1 ∷ 0 ∷ 4 ∷ []) m
lived link number does.AcksLcp m = heard link 0xc021 (2 ∷ 1 ∷ 0 ∷ 14 ∷ 2 ∷ 6 ∷ 0 ∷ 0 ∷ 0 ∷ 0 ∷ 7 ∷ 2 ∷ 8 ∷ 2 ∷ []) m
lived link number does.Carry m = said (codes "carry " ++ (decimal link ++ [])) m
lived link number does.AsksIp m = heard link 0x8021 (1 ∷ 1 ∷ 0 ∷ 10 ∷ 3 ∷ 6 ∷ 10 ∷ 0 ∷ link ∷ 2 ∷ []) m
lived link number does.AcksIp m = heard link 0x8021 (2 ∷ 1 ∷ 0 ∷ 10 ∷ 3 ∷ 6 ∷ 10 ∷ 0 ∷ link ∷ 1 ∷ []) m
lived link number does.FirstEnds m = said (script_ends link (2 * number - 1)) m
lived link number does.Packet m = said (packet_line link (five_words m)) (drawn m)
lived link number does.Datagram m = heard link 0x21 (five_words m) (drawn m)
lived link number does.Terminates m = heard link 0xc021 (5 ∷ 7 ∷ 0 ∷ 4 ∷ []) m
lived link number does.SecondEnds m = said (script_ends link (2 * number)) m
lived link number does.LineEnd m = said (link_line link (codes " line end")) m

-- ---- turns

-- what is made, and how many steps each link has done
pub record Turns : Type 0 where
  pub made : Made
  pub done : List ℕ

-- the place before the number of the link that a word draws
abbrev pub drawn_link : ℕ → ℕ → ℕ
drawn_link links word = word % links

-- a link's next step; its steps are counted as far as a count goes
abbrev pub next_step : ℕ → Turns → Turns
next_step place t =
    let done = slice_index_or t.done place 0 in
    record { made = lived (place + 1) (life_of done) (step_of done) t.made; done = slice_set t.done place (min (done + 1) 4294967295) }

-- A turn draws a word, where a line is left.
unfoldable pub turn : ℕ → Turns → Turns
turn links t =
    if t.made.left == 0 then t
    else next_step (drawn_link links (next_word t.made.words)) (record t { made = after_word t.made })

-- As many turns as lines are more than enough.
abbrev pub turns : ℕ → ℕ → Turns → Turns
turns links zero t = t
turns links (suc n) t = turn links (turns links n t)

abbrev pub before_all : ℕ → ℕ → Turns
before_all seed steps = record { made = record { words = seed; left = steps; text = [] }; done = replicate 16 0 }

unfoldable pub made_steps : ℕ → ℕ → ℕ → List ℕ
made_steps seed links steps = (turns links steps (before_all seed steps)).made.text

-- ---- the whole text

-- the options of link k
unfoldable pub link_options : ℕ → List ℕ
link_options k =
    ((codes "link socket h:1 unit " ++ (decimal (k - 1) ++ codes " 10.0.")) ++ (decimal k ++ codes ".1:10.0.")) ++ (decimal k ++ codes ".2\n")

-- the options of so many links behind a text
abbrev pub with_options : List ℕ → ℕ → List ℕ
with_options text zero = text
with_options text (suc k) = with_options text k ++ link_options (suc k)

-- the first line, and the options of all links
unfoldable pub first_lines : ℕ → ℕ → List ℕ
first_lines seed links =
    (codes "full " ++ (decimal seed ++ codes "\noptions ")) ++ (decimal (links + 1) ++ codes "\nloglimit 65536 nomagic persist holdoff 0 maxfail 0\n")

abbrev pub made_head : ℕ → ℕ → List ℕ
made_head seed links = with_options (first_lines seed links) links ++ codes "pap 0\nchap 0\n"

abbrev pub made_text : ℕ → ℕ → ℕ → List ℕ
made_text seed links steps = made_head seed links ++ made_steps seed links steps
