use Rattle.std.proofs.Common.{◌≡◌, ℕ, ◌+◌, ◌-◌, ◌==◌, ◌++◌, ◌%◌, List, take, drop, length, refl, sym, ap, ◌∙◌, arith}
use Rattle.std.specs.List.{slice_range}
use Rattle.ppp_mp.specs.Header.{header_of, long_octets, long_space}
use Rattle.ppp_mp.specs.Schedule.{SentPiece}
use Rattle.ppp_mp.proofs.Sends.{sent_at}
use Rattle.ppp_mp.proofs.cuts.Cuts.information.Goals as goal

ranged : (xs : List ℕ) (a len b n : ℕ) → b ≡ a + len → n ≡ a → slice_range xs n b ≡ take len (drop a xs)
ranged xs a len b n end begin = let e : b - n ≡ len = omega arith in rw (e, begin) refl

pub returns-clause-information : goal.returns-clause-information
returns-clause-information c = λ piece there.
    let p = c.in_ok-piece.piece in
    let is = sent_at c.args.packet.now (length c.args.self.now) 0 c.args.at c.args.self.now c.in_ok-piece.piece piece (sym c.in_ok-piece.ensures) there in
    let at : 0 + c.args.at ≡ c.args.at = omega arith in
    let first : piece.first ≡ (c.args.at == 0) = ap (λ (q : SentPiece). q.first) is ∙ ap (λ n. n == 0) at in
    let last : piece.last ≡ (c.args.at + 1 == length c.args.self.now) = ap (λ (q : SentPiece). q.last) is ∙ ap (λ n. n + 1 == length c.args.self.now) at in
    let octets : c.in_ok-octets.octets.now ≡ piece.octets =
    c.in_ok-octets.ensures.lookup.0.2 ∙ ranged c.args.packet.now c.in_ok-piece.piece.place c.in_ok-piece.piece.len (c.from-begin.result + c.from.result) c.from-begin.result
    (ap (λ n. n + c.from.result) c.from-begin.ensures ∙ ap (λ n. c.in_ok-piece.piece.place + n) c.from.ensures) c.from-begin.ensures
    ∙ sym (ap (λ (q : SentPiece). q.octets) is) in
    let header : c.append.new.self ≡ header_of long_octets (c.args.at == 0) (c.args.at + 1 == length c.args.self.now) ((c.args.number + c.args.at) % long_space) =
    c.append.ensures ∙ ap (λ (l : List ℕ). l ++ c.in_ok-header.header) c.new-information.ensures ∙ c.in_ok-header.ensures.header in
    c.append-2.ensures
    ∙ ap (λ (l : List ℕ). l ++ c.in_ok-octets.octets.now) header
    ∙ ap (λ (l : List ℕ). header_of long_octets (c.args.at == 0) (c.args.at + 1 == length c.args.self.now) ((c.args.number + c.args.at) % long_space) ++ l) octets
    ∙ ap (λ b. header_of long_octets b (c.args.at + 1 == length c.args.self.now) ((c.args.number + c.args.at) % long_space) ++ piece.octets) (sym first)
    ∙ ap (λ b. header_of long_octets piece.first b ((c.args.number + c.args.at) % long_space) ++ piece.octets) (sym last)
