use Rattle.std.proofs.Common.{◌≡◌, ℕ, Bor, List, ◌++◌, ◌∙◌, ap, append_assoc, codes, option_map}
use Rattle.fax_requests.specs.Responding.{opaque_part, quoted}
use Rattle.fax_requests.proofs.challenge.put_answer.Goals as goal

joined : (before one two three : List ℕ) → ((before ++ one) ++ two) ++ three ≡ before ++ (one ++ (two ++ three))
joined before one two three = simp append_assoc

pub returns : goal.returns
returns c =
    let items = c.args.value.now.items in
    let nonce = quoted (codes ", cnonce=") c.args.asked.now.client_nonce.now in
    let rest = opaque_part (option_map (λ (text : Bor (List ℕ)). text.now) c.args.challenge.now.opaque) in
    c.in_ok-put_opaque.ensures
    ∙ ap (λ (before : List ℕ). before ++ rest) (c.in_ok-put_quoted-2.ensures ∙ ap (λ (before : List ℕ). before ++ nonce) c.in_ok-put_quoted.ensures)
    ∙ joined items (quoted (codes ", response=") c.as_bytes.result.now) nonce rest
    ∙ ap (λ (digits : List ℕ). items ++ (quoted (codes ", response=") digits ++ (nonce ++ rest))) (c.as_bytes.ensures.value ∙ c.in_ok-digits.ensures)
