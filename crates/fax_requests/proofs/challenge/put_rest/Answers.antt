use Rattle.std.proofs.Common.{ℕ, List, ◌++◌, ◌∙◌, ap, append_assoc, codes}
use Rattle.fax_requests.proofs.challenge.put_rest.Goals as goal

pub returns : goal.returns
returns c =
    let items = c.args.value.now.items in
    let counted = codes ", nc=" ++ c.args.asked.now.count.now in
    c.in_ok-put_plain-2.ensures ∙ ap (λ (before : List ℕ). before ++ (codes ", qop=auth, algorithm=" ++ c.word_of.result.now)) c.in_ok-put_plain.ensures
    ∙ append_assoc items counted (codes ", qop=auth, algorithm=" ++ c.word_of.result.now)
    ∙ ap (λ (word : List ℕ). items ++ (counted ++ (codes ", qop=auth, algorithm=" ++ word))) c.word_of.ensures
