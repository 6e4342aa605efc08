use Rattle.std.proofs.Common.{ℕ, ◌≡◌, ◌-◌, List, length, take, get_or, sym, ap, ◌∙◌, arith}
use Rattle.std.proofs.lemmas.List.{get_or_read}
use Rattle.fax_pagestore.proofs.LineLemmas.{added_row, added_colour, left_out_row, left_out_colour}
use Rattle.fax_pagestore.proofs.reader.line.add_run.Goals as goal

pub returns-then-index-eq0-clause-row : goal.returns-then-index-eq0-clause-row
returns-then-index-eq0-clause-row c =
    let runs : List ℕ = c.args.runs.now.items in
    let size : length runs ≡ c.len-len.result = omega (arith, c.args.runs.now.ok.0) in
    let last : c.index.result.now ≡ get_or runs (c.len-len.result - 1) 0 = get_or_read runs _ _ (omega (arith, size)) c.index.ensures 0 in
    left_out_row runs c.truncate.new.self.items c.args.run (omega (arith, size)) (ap (λ n. get_or runs (n - 1) 0) size ∙ sym last ∙ c.if-index-eq0.true) c.if-run-eq0.true
    (c.truncate.ensures.items ∙ ap (λ n. take (n - 1) runs) (sym size))

pub returns-then-index-eq0-clause-colour : goal.returns-then-index-eq0-clause-colour
returns-then-index-eq0-clause-colour c =
    let runs : List ℕ = c.args.runs.now.items in
    let size : length runs ≡ c.len-len.result = omega (arith, c.args.runs.now.ok.0) in
    let last : c.index.result.now ≡ get_or runs (c.len-len.result - 1) 0 = get_or_read runs _ _ (omega (arith, size)) c.index.ensures 0 in
    left_out_colour runs c.truncate.new.self.items (omega (arith, size)) (ap (λ n. get_or runs (n - 1) 0) size ∙ sym last ∙ c.if-index-eq0.true)
    (c.truncate.ensures.items ∙ ap (λ n. take (n - 1) runs) (sym size))

pub returns-clause-row : goal.returns-clause-row
returns-clause-row c = added_row c.args.runs.now.items c.push.new.self.items c.args.run c.in_ok-push.ensures.items

pub returns-clause-colour : goal.returns-clause-colour
returns-clause-colour c = added_colour c.args.runs.now.items c.push.new.self.items c.args.run c.in_ok-push.ensures.items
