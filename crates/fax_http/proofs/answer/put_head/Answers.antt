use Rattle.std.proofs.Common.{◌≡◌, ◌++◌, ℕ, List, codes, decimal, subst, ◌∙◌}
use Rattle.fax_http.specs.Answers.{allowed, content_type, field, keeping, lasting, status_line}
use Rattle.fax_http.proofs.PartLemmas.{six}
use Rattle.fax_http.proofs.answer.put_head.Goals as goal

pub returns : goal.returns
returns c =
    let a : List ℕ = c.put_status.new.octets.items in
    let b : List ℕ = c.put_field.new.octets.items in
    let d : List ℕ = c.put_field-2.new.octets.items in
    let k : List ℕ = c.put_field-3.new.octets.items in
    let e : List ℕ = c.put.new.octets.items in
    six c.put-2.result c.args.octets.now.items (status_line c.args.status) (field (codes "Content-Type") (content_type c.args.content)) (field (codes "Content-Length") (decimal c.args.length)) (field (codes "Cache-Control") (keeping c.args.content)) (allowed c.args.status) lasting
    a b d k e _
    c.in_ok-put_status.ensures
    (subst (λ (value : List ℕ). b ≡ a ++ field (codes "Content-Type") value) c.name.ensures c.in_ok-put_field.ensures)
    (subst (λ (value : List ℕ). d ≡ b ++ field (codes "Content-Length") value) c.format.ensures.text c.in_ok-put_field-2.ensures)
    (subst (λ (value : List ℕ). k ≡ d ++ field (codes "Cache-Control") value) c.keeping.ensures c.in_ok-put_field-3.ensures)
    (subst (λ (part : List ℕ). e ≡ k ++ part) (c.as_bytes.ensures.value ∙ c.allowed.ensures) c.in_ok-put.ensures)
    c.put-2.ensures
