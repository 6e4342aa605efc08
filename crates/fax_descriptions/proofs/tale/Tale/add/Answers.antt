use Rattle.std.proofs.Common.{refl, ◌∙◌, ap, arith}
use Rattle.fax_descriptions.specs.Tales.{last_with}
use Rattle.fax_descriptions.proofs.TaleLemmas.{last_goes_on}
use Rattle.fax_descriptions.proofs.tale.Tale.add.Goals as goal

pub returns : goal.returns
returns c =
    last_goes_on c.self.inside.entries.items c.in-Some.last c.index_mut.result.now _ c.args.more.now (omega (arith, c.in-Some.ensures, c.len.ensures))
    c.index_mut.ensures.value refl c.in_ok-push_str.ensures.bytes ∙ ap (last_with c.args.more.now) c.self.view_is
