use Rattle.std.proofs.Common.{List, ℕ, Option, ◌++◌, sym, ◌∙◌, ap, codes}
use Rattle.fax_command.proofs.PutLemmas.{OnOk-then}
use Rattle.fax_descriptions.specs.Tales.{last_with}
use Rattle.fax_gateway.specs.declared.given.RefusedPage.{RefusedPage}
use Rattle.fax_explain.specs.Ladders.{with_why}
use Rattle.fax_explain.proofs.stage.tell_refusal.Goals as goal

pub returns : goal.returns
returns c =
    let words = c.as_str.ensures.value ∙ c.in_ok-words.ensures.ok ∙ ap (λ (w : List ℕ). codes ": " ++ w) c.why_refused-why.ensures in
    OnOk-then c.add.result c.add.ensures (λ told. told ∙ ap (λ (w : List ℕ). last_with w c.args.tale.now) words ∙ ap (λ (r : Option RefusedPage). with_why r c.args.tale.now) (sym c.in-Some.is))
