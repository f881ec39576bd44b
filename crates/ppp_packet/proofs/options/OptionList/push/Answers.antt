-- What is pushed is an item behind the others.
use Rattle.std.proofs.Common.{◌≡◌, ℕ, ◌+◌, List, [], ◌∷◌, ◌++◌, length, append_assoc, ap, ◌∙◌, subst, sym}
use Rattle.ppp_packet.specs.OptionsOf.{item}
use Rattle.ppp_packet.specs.OptionList.{items_of, IsLaid}
use Rattle.ppp_packet.proofs.Laying.{pushed-items, pushed-laid}
use Rattle.ppp_packet.proofs.options.OptionList.push.Goals as goal

joined : (o a b d : List ℕ) (kind size : ℕ) (body : List ℕ) → a ≡ o ++ kind ∷ [] → b ≡ a ++ size ∷ [] → d ≡ b ++ body → d ≡ o ++ (kind ∷ size ∷ body)
joined o a b d kind size body p q r =
    r ∙ ap (λ x. x ++ body) (q ∙ ap (λ x. x ++ size ∷ []) p) ∙ append_assoc (o ++ kind ∷ []) (size ∷ []) body ∙ append_assoc o (kind ∷ []) (size ∷ body)

pub invariant_of-self : goal.invariant_of-self
invariant_of-self c =
    let e = joined c.self.inside.octets _ _ _ c.args.kind (length c.args.body.now + 2) c.args.body.now c.push.ensures c.push-2.ensures c.append.ensures in
    subst IsLaid (sym e) (pushed-laid c.self.inside.octets (item c.args.kind c.args.body.now) c.self.invariant)

pub returns : goal.returns
returns c =
    let e = joined c.self.inside.octets _ _ _ c.args.kind (length c.args.body.now + 2) c.args.body.now c.push.ensures c.push-2.ensures c.append.ensures in
    ap items_of e ∙ pushed-items c.self.inside.octets (item c.args.kind c.args.body.now) c.self.invariant ∙ ap (λ items. items ++ item c.args.kind c.args.body.now ∷ []) c.self.view_is
