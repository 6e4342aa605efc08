use Rattle.std.proofs.Common.{◌∙◌, [], ap, codes}
use Rattle.std.specs.Prelude.{string_bytes, unwrap_or}
use Rattle.std.specs.List.{join_by}
use Rattle.clap.specs.Words.{all_of, found_of, rows_of}
use Rattle.clap.proofs.WalkLemmas.{raw_values-rows}
use Rattle.fax_request.proofs.SaidLemmas.{said}
use Rattle.fax_request.proofs.say_words.text_said.Goals as goal

-- the words that were given, by the rows
pub returns-in-Some : goal.returns-in-Some
returns-in-Some c =
    said string_bytes c.join.result (codes " ") c.in-Some.words.now (all_of (codes "word") (rows_of (found_of c.args.given.now))) c.join.ensures.ok
    (c.in-Some.ensures ∙ raw_values-rows (found_of c.args.given.now) (codes "word"))

-- none was given
pub returns-in-None : goal.returns-in-None
returns-in-None c =
    c.new.ensures.bytes
    ∙ ap (λ found. join_by (λ word. word) (codes " ") (unwrap_or found [])) (c.in-None.ensures ∙ raw_values-rows (found_of c.args.given.now) (codes "word"))
