use Rattle.std.proofs.Common.{◌≡◌, ◌<◌, Some, None, List, ℕ, length, take, drop, sym, ◌∙◌, ap, arith, length-append}
use Rattle.fax_spool.specs.Records.{Ends, length_in}
use Rattle.fax_spool.proofs.Headers.{after_head, head_is, some_back}
use Rattle.fax_spool.proofs.file.first_record.Goals as goal

unread_ends : (octets head : List ℕ) → head ≡ take 15 octets → length_in head ≡ None → Ends octets
unread_ends octets head is none = λ r rest b. let bad : Some (length r) ≡ None = sym b.says ∙ ap length_in (sym (is ∙ head_is octets r rest b)) ∙ none in absurd (cc)

long_ends : (octets head after : List ℕ) (n : ℕ) → head ≡ take 15 octets → after ≡ drop 15 octets → length_in head ≡ Some n → length after < n → Ends octets
long_ends octets head after n is back says short = λ r rest b.
    let same : length r ≡ n = some_back (length r) n (sym b.says ∙ ap length_in (sym (is ∙ head_is octets r rest b)) ∙ says) in
    absurd (omega (arith, same, short, ap length (back ∙ after_head octets r rest b), length-append r rest))

pub returns-in_err-len : goal.returns-in_err-len
returns-in_err-len c = rw c.from_residual.ensures (unread_ends c.args.octets.now c.split_at.result.0.now c.split_at.ensures.front (sym c.in_err-len.ensures))

pub returns-then-len-after : goal.returns-then-len-after
returns-then-len-after c = long_ends c.args.octets.now c.split_at.result.0.now c.split_at.result.1.now c.in_ok-len.field-0 c.split_at.ensures.front c.split_at.ensures.back (sym c.in_ok-len.ensures) c.if-len-after.true
