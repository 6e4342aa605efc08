-- The first line feed of a text, as the search of `memchr` tells it.
use Rattle.std.proofs.Common.{◌≡◌, ◌≢◌, ℕ, ◌<◌, List, length, slice_index, Option, Some, None, arith, eq-eqb}
use Rattle.std.specs.Prelude.{IfSome, IfNone}
use Rattle.std.proofs.lemmas.Bool.{eqb-true}
use Rattle.memchr.specs.Find.{IsFirstByte, is_byte}

pub feed_within : (text : List ℕ) (found : Option ℕ) → IsFirstByte (is_byte 10) text found → IfSome found (λ place. place < length text)
feed_within text (Some place) is = is.0.high
feed_within text None is = tt

pub feed_found : (text : List ℕ) (found : Option ℕ) → IsFirstByte (is_byte 10) text found → IfSome found (λ place. slice_index text place ≡ 10)
feed_found text (Some place) is = eqb-true (slice_index text place) 10 is.1
feed_found text None is = tt

pub feed_before : (text : List ℕ) (found : Option ℕ) → IsFirstByte (is_byte 10) text found
    → IfSome found (λ place. (k : ℕ) → k < place → slice_index text k ≢ 10)
feed_before text (Some place) is = λ k before equal. is.0.before k (omega arith) before (eq-eqb (slice_index text k) 10 equal)
feed_before text None is = tt

pub feed_none : (text : List ℕ) (found : Option ℕ) → IsFirstByte (is_byte 10) text found
    → IfNone found ((k : ℕ) → k < length text → slice_index text k ≢ 10)
feed_none text (Some place) is = tt
feed_none text None is = λ k within equal. is k (omega arith) within (eq-eqb (slice_index text k) 10 equal)
