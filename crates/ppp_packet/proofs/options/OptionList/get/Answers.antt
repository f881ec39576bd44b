-- The option behind as many others.
use Rattle.std.proofs.Common.{◌≡◌, ◌≤◌, Some, length, drop, arith, ap, sym, subst, MatchOption, slice_get, ◌∙◌, ◌++◌, ◌∷◌}
use Rattle.ppp_packet.specs.OptionsOf.{item}
use Rattle.ppp_packet.proofs.Laying.{get-drop, drop-next, past_last}
use Rattle.ppp_packet.proofs.options.OptionList.get.Goals as goal

pub returns-in_err-next : goal.returns-in_err-next
returns-in_err-next c =
    let end : length c.args.self.now ≤ c.args.at = past_last c.args.self.now c.passing._passed c.args.at (sym c.passing.invariant ∙ c.in_err-next.ensures.item) c.passing.auto._passed-end in
    subst (λ found. MatchOption found (length c.args.self.now ≤ c.args.at) (λ f. slice_get c.args.self.now c.args.at ≡ Some (item f.kind f.body))) (sym c.from_residual.ensures) end

pub passing-preserved : goal.passing-preserved
passing-preserved c = sym (drop-next c.args.self.now c.passing._passed (item c.in_ok-next.field-0.kind c.in_ok-next.field-0.body.now) c.next.new.self (sym c.passing.invariant ∙ c.in_ok-next.ensures.item))

pub returns-in_err-seen : goal.returns-in_err-seen
returns-in_err-seen c =
    let end : length c.args.self.now ≤ c.args.at = past_last c.args.self.now c.passing._passed c.args.at (sym c.passing.invariant ∙ c.in_err-seen.ensures.item) c.passing.auto._passed-end in
    subst (λ found. MatchOption found (length c.args.self.now ≤ c.args.at) (λ f. slice_get c.args.self.now c.args.at ≡ Some (item f.kind f.body))) (sym c.from_residual-in_err-seen.ensures) end

pub returns : goal.returns
returns c =
    let all : c.passing._passed ≡ c.args.at = omega (arith, c.passing-test.false, c.passing.auto._passed-end) in
    let behind : drop c.args.at c.args.self.now ≡ item c.in_ok-seen.seen.kind c.in_ok-seen.seen.body.now ∷ c.next-2.new.self = ap (λ n. drop n c.args.self.now) (sym all) ∙ sym c.passing.invariant ∙ c.in_ok-seen.ensures.item in
    get-drop c.args.self.now c.args.at (item c.in_ok-seen.seen.kind c.in_ok-seen.seen.body.now) c.next-2.new.self behind
    ∙ ap (λ body. Some (item c.in_ok-seen.seen.kind body)) (sym (c.append.ensures ∙ ap (λ o. o ++ c.in_ok-seen.seen.body.now) c.new-body.ensures))
