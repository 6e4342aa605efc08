use Rattle.std.proofs.Common.{◌≡◌, ◌+◌, ◌≤◌, ◌++◌, ℕ, List, length, ap, inr, ◌∙◌, arith, length-append, rules}
use Rattle.std.proofs.lemmas.Result.{err_from_is_err_and}
use Rattle.fax_tiff.specs.WrittenTiffs.{file_head, pages_from}
use Rattle.fax_tiff.proofs.WritingLemmas.{whole_file}
use Rattle.fax_tiff.proofs.writing.write_tiff.Goals as goal

pub returns-clause-ok : goal.returns-clause-ok
returns-clause-ok c =
    let total : c.in-Ok.total ≡ length c.args.pages.now = search rules in
    c.in_ok-push_pages.ensures.ok
    ∙ whole_file c.args.pages.now c.in-Ok.total c.push_file_head.new.octets.items
    (c.in_ok-push_file_head.ensures ∙ ap (λ (o : List ℕ). o ++ file_head) c.new-octets.ensures.items) total

pub returns-in_err-push_pages-clause-long : goal.returns-in_err-push_pages-clause-long
returns-in_err-push_pages-clause-long c =
    let p = err_from_is_err_and c.from_residual-in_err-push_pages.result c.from_residual-in_err-push_pages.ensures.1 in
    let total : c.in-Ok.total ≡ length c.args.pages.now = search rules in
    let head : List ℕ = c.push_file_head.new.octets.items in
    let all = whole_file c.args.pages.now c.in-Ok.total head (c.in_ok-push_file_head.ensures ∙ ap (λ (o : List ℕ). o ++ file_head) c.new-octets.ensures.items) total in
    λ e.
    let far : 4294967296 ≤ length head + length (pages_from (length head) 0 c.in-Ok.total c.args.pages.now) = c.in_err-push_pages.ensures.long (cc) in
    inr (omega (arith, far, ap length all, length-append head (pages_from (length head) 0 c.in-Ok.total c.args.pages.now)))
