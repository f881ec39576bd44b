-- What the gatherer is asked and answers is that of the event.
use Rattle.std.proofs.Common.{◌≡◌, ◌⊎◌, inl, inr, ℕ, ◌<◌, ◌≤◌, None, List, [], ◌∷◌, length, take, refl, ap, sym, subst, ◌∙◌}
use Rattle.std.specs.Prelude.{◌↔◌}
use Rattle.ppp_mark.specs.ScriptLog.{IsRunningJob, ScriptLogState}
use Rattle.ppp_mp.specs.Delivered.{Entry, Gathering, Leaves}
use Rattle.ppp_mp.specs.Header.{fragment_of, long_octets, long_space}
use Rattle.ppp_mp.specs.StandsFor.{Adds, AddsPiece, GatherNow, IsJoined, StandsFor, with_looks}
use Rattle.ppp_mp.specs.declared.counts.PieceNow.{PieceNow}
use Rattle.ppp_mp.specs.declared.counts.PieceNow.TheVariants.{Kept, Old, Doubled, Stranger, BadHeader}
use Rattle.ppp_secrets.specs.declared.secrets.SecretsPair.{SecretsPair}
use Rattle.ppp_bundle.specs.declared.event.BundleEvent.{BundleEvent}
use Rattle.ppp_bundle.specs.declared.event.BundleEvent.TheVariants.{Make, In, Out, Frame, Datagram, Tick, HookOver}
use Rattle.ppp_bundle.specs.Closing.{looked}
use Rattle.ppp_bundle.specs.Gathers.{AddsEntry, GatherCall, Gathered, Gathers, TakesPiece, link_leaves, nothing_asked, piece_comes}
use Rattle.ppp_bundle.specs.Sound.{Agrees, IsSound}
use Rattle.ppp_bundle.specs.State.{UnitState}
use Rattle.ppp_bundle.specs.UnitPart.{IsFresh, MayCome, UnitPart, after_event, asked_of}

take_all : (packets : List (List ℕ)) (n : ℕ) → n ≡ length packets → packets ≡ take n packets
take_all packets n e = whole packets ∙ ap (λ (k : ℕ). take k packets) (sym e)
  where
    whole : (xs : List (List ℕ)) → xs ≡ take (length xs) xs
    whole [] = refl
    whole (x ∷ xs) = ap (λ (ys : List (List ℕ)). x ∷ ys) (whole xs)

abbrev pub gives : GatherNow → List (List ℕ) → Gathered
gives gather packets = record { gather = gather; packets = packets }

pub asks_nothing : (call : GatherCall) (old : GatherNow) (packets : List (List ℕ)) → call ≡ nothing_asked → Gathers call old (gives old (take 0 packets))
asks_nothing call old packets e = subst (λ (c : GatherCall). Gathers c old (gives old (take 0 packets))) (sym e) (record { gather = refl; none = none packets })
  where
    none : (xs : List (List ℕ)) → take 0 xs ≡ []
    none [] = refl
    none (x ∷ xs) = refl

pub asks_leave : (call : GatherCall) (link : ℕ) (old new : GatherNow) (packets : List (List ℕ)) (n : ℕ) → call ≡ link_leaves link → n ≡ length packets → new.mrru ≡ old.mrru
    → ((past : List Entry) (s : Gathering) → StandsFor long_space old past s → Adds long_space new past s (Leaves link) packets) → Gathers call old (gives new (take n packets))
asks_leave call link old new packets n e count ours stands =
    subst (λ (c : GatherCall). Gathers c old (gives new (take n packets))) (sym e)
    (subst (λ (ps : List (List ℕ)). AddsEntry old (Leaves link) (gives new ps)) (take_all packets n count) (record { ours = ours; stands = stands }))

-- whoever brings a piece that is too short, nothing comes of it
pub record Refused (old new : GatherNow) (packets : List (List ℕ)) : Type 0 where
  pub gather : new ≡ with_looks 0 old
  pub none : packets ≡ []

short_by : (answer : PieceNow) (short joined : Type 0) (old new : GatherNow) (packets : List (List ℕ)) → short → ((answer ≡ Stranger) ↔ ¬ joined) → ((answer ≡ BadHeader) ↔ (joined × short))
    → ((answer ≡ Stranger) ⊎ (answer ≡ BadHeader) → (new ≡ with_looks 0 old) × (packets ≡ [])) → (new ≡ with_looks 0 old) × (packets ≡ [])
short_by Stranger short joined old new packets s stranger bad refused = refused (inl refl)
short_by BadHeader short joined old new packets s stranger bad refused = refused (inr refl)
short_by Kept short joined old new packets s stranger bad refused =
    absurd (let f : Kept ≡ Stranger = stranger.1 (λ j. let g : Kept ≡ BadHeader = bad.1 (j, s) in cc) in cc)
short_by Old short joined old new packets s stranger bad refused =
    absurd (let f : Old ≡ Stranger = stranger.1 (λ j. let g : Old ≡ BadHeader = bad.1 (j, s) in cc) in cc)
short_by Doubled short joined old new packets s stranger bad refused =
    absurd (let f : Doubled ≡ Stranger = stranger.1 (λ j. let g : Doubled ≡ BadHeader = bad.1 (j, s) in cc) in cc)

pub takes_piece : (link : ℕ) (information octets : List ℕ) (answer : PieceNow) (old new : GatherNow) (packets : List (List ℕ)) (n : ℕ) → octets ≡ information → n ≡ length packets → new.mrru ≡ old.mrru
    → ((answer ≡ Stranger) ↔ ¬ (IsJoined old link)) → ((answer ≡ BadHeader) ↔ (IsJoined old link × (length octets < long_octets)))
    → ((answer ≡ Stranger) ⊎ (answer ≡ BadHeader) → (new ≡ with_looks 0 old) × (packets ≡ []))
    → ((past : List Entry) (s : Gathering) → StandsFor long_space old past s → long_octets ≤ length octets → AddsPiece long_space new past s link (fragment_of long_space long_octets octets) answer packets)
    → TakesPiece link information old (gives new (take n packets))
takes_piece link information octets answer old new packets n e count ours stranger bad refused stands =
    let here : TakesPiece link octets old (gives new packets) = record {
      answer = answer;
      ours = ours;
      short = λ s. short_by answer (length octets < long_octets) (IsJoined old link) old new packets s stranger bad refused;
      stands = stands;
    } in
    subst (λ (x : List ℕ). TakesPiece link x old (gives new (take n packets))) e
    (subst (λ (ps : List (List ℕ)). TakesPiece link octets old (gives new ps)) (take_all packets n count) here)

pub asks_as : (call : GatherCall) (link : ℕ) (information : List ℕ) (old : GatherNow) (g : Gathered) → call ≡ piece_comes link information → TakesPiece link information old g → Gathers call old g
asks_as call link information old g e takes = subst (λ (c : GatherCall). Gathers c old g) (sym e) takes

-- THE EVENT

pub part_of : {S : Type 0} (secrets : SecretsPair) (event : BundleEvent S) (old asked mid new : UnitState S) (packets : List (List ℕ)) → Gathers (asked_of old.live event) old.gather (gives asked.gather packets)
    → asked ≡ record old { gather = asked.gather } → mid ≡ after_event secrets event packets (record asked { ended = None }) → new ≡ looked mid → UnitPart secrets event old new
part_of {S = S} secrets event old asked mid new packets gathers rest is then = record {
  gathered = gives asked.gather packets;
  gathers = gathers;
  after = then ∙ ap (λ (v : UnitState S). looked v) (is ∙ ap (λ (v : UnitState S). after_event secrets event packets (record v { ended = None })) rest);
}

-- The log, the bundle and the time are what they were.
pub record IsAlike {S : Type 0} (u v : UnitState S) : Type 0 where
  pub unit : v.unit ≡ u.unit
  pub time : v.time ≡ u.time
  pub scripts : v.scripts ≡ u.scripts
  pub live : v.live ≡ u.live

agrees_alike : {S : Type 0} (u v : UnitState S) → IsAlike u v → Agrees u → Agrees v
agrees_alike u v a h = record {
  target = rw (a.scripts, a.unit) h.target;
  opened = rw (a.scripts, a.live) h.opened;
  since = rw (a.scripts, a.live) h.since;
  room = rw (a.scripts, a.live) h.room;
  fits = rw a.live h.fits;
  says = rw a.scripts h.says;
  bundle = rw (a.scripts, a.live) h.bundle;
  stays = rw (a.scripts, a.live) h.stays;
  session = rw a.live h.session;
  time = rw a.time h.time;
}

pub sound_asked : {S : Type 0} (u v : UnitState S) → v.unit ≡ u.unit → v.time ≡ u.time → v.scripts ≡ u.scripts → v.live ≡ u.live → IsSound u → IsSound v
sound_asked u v unit time scripts live h = record {
  agrees = agrees_alike u v (record { unit = unit; time = time; scripts = scripts; live = live }) h.agrees;
  few = rw (scripts, live) h.few;
  owes = rw (scripts, live) h.owes;
}

pub may_asked : {S : Type 0} (event : BundleEvent S) (u v : UnitState S) → v.scripts ≡ u.scripts → v.live ≡ u.live → MayCome event u → MayCome event v
may_asked (Make number maker wish mrru allow) u v scripts live may = rw (scripts, live) may
may_asked (In link stay mru) u v scripts live may = rw live may
may_asked (Out link stay) u v scripts live may = rw live may
may_asked (Frame link protocol information) u v scripts live may = tt
may_asked (Datagram datagram) u v scripts live may = tt
may_asked (Tick now) u v scripts live may = tt
may_asked (HookOver done) u v scripts live may = tt

pub fresh_asked : {S : Type 0} (event : BundleEvent S) (u v : UnitState S) → v.scripts ≡ u.scripts → IsFresh event u ↔ IsFresh event v
fresh_asked (Make number maker wish mrru allow) u v scripts = (λ e. e, λ e. e)
fresh_asked (In link stay mru) u v scripts = (λ e. e, λ e. e)
fresh_asked (Out link stay) u v scripts = (λ e. e, λ e. e)
fresh_asked (Frame link protocol information) u v scripts = (λ e. e, λ e. e)
fresh_asked (Datagram datagram) u v scripts = (λ e. e, λ e. e)
fresh_asked (Tick now) u v scripts = (λ e. e, λ e. e)
fresh_asked {S = S} (HookOver done) u v scripts = (λ e. subst (λ (s : ScriptLogState S). IsRunningJob done s) (sym scripts) e, λ e. subst (λ (s : ScriptLogState S). IsRunningJob done s) scripts e)

-- Where an event is stale, nothing was asked.
pub stale_same : {S : Type 0} (event : BundleEvent S) (u : UnitState S) (gather : GatherNow) (packets : List (List ℕ)) → Gathers (asked_of u.live event) u.gather (gives gather packets) → (IsFresh event u → ⊥) → gather ≡ u.gather
stale_same (Make number maker wish mrru allow) u gather packets gathers stale = absurd (stale tt)
stale_same (In link stay mru) u gather packets gathers stale = absurd (stale tt)
stale_same (Out link stay) u gather packets gathers stale = absurd (stale tt)
stale_same (Frame link protocol information) u gather packets gathers stale = absurd (stale tt)
stale_same (Datagram datagram) u gather packets gathers stale = absurd (stale tt)
stale_same (Tick now) u gather packets gathers stale = absurd (stale tt)
stale_same (HookOver done) u gather packets gathers stale = gathers.gather
