use Rattle.std.proofs.Common.{◌≡◌, ◌∙◌, ◌∷◌, ℕ, List, [], ap, codes, map}
use Rattle.std.specs.Prelude.{unwrap_or}
use Rattle.clap.specs.Words.{all_of, found_of, rows_of}
use Rattle.clap.proofs.WalkLemmas.{raw_values-rows}
use Rattle.fax_request.proofs.FileLemmas.{listed}
use Rattle.fax_request.proofs.terminal_words.send_files_of.Goals as goal

-- the files that were given, by the rows
pub returns-in-Some : goal.returns-in-Some
returns-in-Some c =
    listed (λ list. list.items) c.from_slice.result c.in-Some.files.now (all_of (codes "file") (rows_of (found_of c.args.given.now))) c.from_slice.ensures.items
    (c.in-Some.ensures ∙ raw_values-rows (found_of c.args.given.now) (codes "file"))

-- none was given
pub returns-in-None : goal.returns-in-None
returns-in-None c =
    ap (map (λ file. file.now)) c.new.ensures.items
    ∙ ap (λ found. unwrap_or found []) (c.in-None.ensures ∙ raw_values-rows (found_of c.args.given.now) (codes "file"))
