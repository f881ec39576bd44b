use Rattle.std.proofs.Common.{ap, refl, ◌∙◌}
use Rattle.ppp_link_rules.specs.LinkEvent.{Bytes}
use Rattle.ppp_link.specs.ErrandValues.{PieceValue}
use Rattle.ppp_link.proofs.KeepFacts.{takes_by, took_bytes, whole_told}
use Rattle.ppp_link.proofs.telling.hear.Goals as goal

pub returns-clause-takes : goal.returns-clause-takes
returns-clause-takes g c =
    takes_by {l = c.args.body.now} (Bytes c.args.piece.now.link c.args.piece.now.session c.args.piece.now.offset c.args.piece.now.octets) c.keep_halves.ensures (λ s k. c.requires.present s k.stands)
    (took_bytes c.args.piece.now.link c.args.piece.now.session c.args.piece.now.offset (c.as_slice.ensures.octets ∙ ap (λ (p : PieceValue). p.octets) c.piece.view_is) c.take_bytes.ensures.takes)

pub returns-clause-whole : goal.returns-clause-whole
returns-clause-whole g c =
    whole_told {l = c.args.body.now} (Bytes c.args.piece.now.link c.args.piece.now.session c.args.piece.now.offset c.args.piece.now.octets) c.keep_halves.ensures refl (λ s k. c.requires.present s k.stands)
    (took_bytes c.args.piece.now.link c.args.piece.now.session c.args.piece.now.offset (c.as_slice.ensures.octets ∙ ap (λ (p : PieceValue). p.octets) c.piece.view_is) c.take_bytes.ensures.takes)
    c.take_bytes.ensures.goes c.requires.whole
