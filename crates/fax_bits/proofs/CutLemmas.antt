-- Bits that are cut off, and zeros that are put after others.
use Rattle.std.proofs.Common.{◌≡◌, ℕ, zero, suc, ◌+◌, ◌-◌, ◌*◌, ◌/◌, ◌%◌, ◌^◌, ◌<◌, ◌≤◌, Bool, false, List, [], ◌∷◌, ◌++◌, length, take, drop, get_or, replicate, sym, ◌∙◌, ap, ap₂, arith, append_assoc, append-nil, length-append}
use Rattle.std.proofs.lemmas.Nat.{shr_below}
use Rattle.std.proofs.lemmas.List.{take_at, take-append-drop, length-take-le, replicate-append-replicate}
use Rattle.std.proofs.Math.Seq.{drop-cons}
use Rattle.std.specs.Int.{to_be_bytes, w32}
use Rattle.fax_bits.specs.Bits.{word_bits, bits_of}
use Rattle.fax_bits.proofs.BitsLemmas.{word_bits-add, word_bits-mod, word_bits-shl, word_bits-zero, length-word_bits, length-bits_of, bits_of-append, bits_of-cons, bits_of-nil, bits_of-be}
use Rattle.fax_bits.proofs.WritingLemmas.{top_below}

-- the first bits of a word
pub word_bits-front : (k n x : ℕ) → k ≤ n → word_bits n x ≡ word_bits k (x / 2 ^ (n - k)) ++ word_bits (n - k) x
word_bits-front k n x le =
    let whole : k + (n - k) ≡ n = omega arith in
    let split : word_bits (k + (n - k)) x ≡ word_bits k (x / 2 ^ (n - k)) ++ word_bits (n - k) x = word_bits-add k (n - k) x in
    rw whole at split

-- a front that ends inside a word after other bits
pub take_inside : (before after : List Bool) (n count k x : ℕ) → k ≤ count → length before + k ≡ n
    → take n (before ++ (word_bits count x ++ after)) ≡ before ++ word_bits k (x / 2 ^ (count - k))
take_inside before after n count k x le size =
    let front : List Bool = word_bits k (x / 2 ^ (count - k)) in
    let rest : List Bool = word_bits (count - k) x ++ after in
    let parts : before ++ (word_bits count x ++ after) ≡ (before ++ front) ++ rest =
    ap (λ b. before ++ (b ++ after)) (word_bits-front k count x le)
    ∙ ap (λ b. before ++ b) (append_assoc front (word_bits (count - k) x) after)
    ∙ sym (append_assoc before front rest) in
    let long : length (before ++ front) ≡ n = length-append before front ∙ ap (λ m. length before + m) (length-word_bits k (x / 2 ^ (count - k))) ∙ size in
    ap (take n) parts ∙ take_at (before ++ front) rest n long

-- a front that ends in the bits of no whole octet
pub cut_pending : (items : List ℕ) (n count pending : ℕ) → 8 * length items ≤ n → n ≤ 8 * length items + count
    → take n (bits_of items ++ word_bits count pending) ≡ bits_of items ++ word_bits (n - 8 * length items) (pending / 2 ^ (count - (n - 8 * length items)))
cut_pending items n count pending ge le =
    let size : length (bits_of items) + (n - 8 * length items) ≡ n = omega (arith, length-bits_of items) in
    ap (λ b. take n (bits_of items ++ b)) (sym (append-nil (word_bits count pending)))
    ∙ take_inside (bits_of items) [] n count (n - 8 * length items) pending (omega arith) size

-- a front that ends in the bits of an octet
pub cut_octet : (items : List ℕ) (n : ℕ) (more : List Bool) → n < 8 * length items
    → take n (bits_of items ++ more) ≡ bits_of (take (n / 8) items) ++ word_bits (n % 8) (get_or items (n / 8) 0 / 2 ^ (8 - n % 8))
cut_octet items n more lt =
    let i : ℕ = n / 8 in
    let inside : i < length items = omega arith in
    let split : items ≡ take i items ++ (get_or items i 0 ∷ drop (suc i) items) = sym (take-append-drop i items) ∙ ap (λ (r : List ℕ). take i items ++ r) (drop-cons items i 0 inside) in
    let bits : bits_of items ≡ bits_of (take i items) ++ (word_bits 8 (get_or items i 0) ++ bits_of (drop (suc i) items)) =
    ap bits_of split ∙ bits_of-append (take i items) (get_or items i 0 ∷ drop (suc i) items)
    ∙ ap (λ b. bits_of (take i items) ++ b) (bits_of-cons (get_or items i 0) (drop (suc i) items)) in
    let whole : bits_of items ++ more ≡ bits_of (take i items) ++ (word_bits 8 (get_or items i 0) ++ (bits_of (drop (suc i) items) ++ more)) =
    ap (λ b. b ++ more) bits
    ∙ append_assoc (bits_of (take i items)) (word_bits 8 (get_or items i 0) ++ bits_of (drop (suc i) items)) more
    ∙ ap (λ b. bits_of (take i items) ++ b) (append_assoc (word_bits 8 (get_or items i 0)) (bits_of (drop (suc i) items)) more) in
    let size : length (bits_of (take i items)) + n % 8 ≡ n = omega (arith, length-bits_of (take i items), length-take-le i items (omega arith)) in
    ap (take n) whole ∙ take_inside (bits_of (take i items)) (bits_of (drop (suc i) items) ++ more) n 8 (n % 8) (get_or items i 0) (omega arith) size

pub shifted_below : (o k n : ℕ) → k ≤ n → o < 2 ^ n → o / 2 ^ (n - k) < 2 ^ k
shifted_below o k n le lt =
    let whole : k + (n - k) ≡ n = omega arith in
    let wide : o < 2 ^ (k + (n - k)) = rw whole lt in
    shr_below o k (n - k) wide

-- octets of zeros
pub bits_of-zeros : (n : ℕ) → bits_of (replicate n 0) ≡ replicate (8 * n) false
bits_of-zeros zero = bits_of-nil
bits_of-zeros (suc n) =
    let size : 8 + 8 * n ≡ 8 * suc n = omega arith in
    bits_of-cons 0 (replicate n 0) ∙ ap₂ (λ (a b : List Bool). a ++ b) (word_bits-zero 8) (bits_of-zeros n)
    ∙ replicate-append-replicate 8 (8 * n) false ∙ ap (λ m. replicate m false) size

-- zeros after a rest of fewer than 32 bits: those that fill it up, whole octets, and the rest
pub bits_of-filled : (items octets : List ℕ) (count pending n whole : ℕ) → count < 32 → pending < 2 ^ count → 32 < n → whole ≡ (count + n - 32) / 8
    → octets ≡ to_be_bytes w32 (pending * 2 ^ (32 - count) % 18446744073709551616)
    → bits_of ((items ++ octets) ++ replicate whole 0) ++ word_bits ((count + n - 32) % 8) 0 ≡ (bits_of items ++ word_bits count pending) ++ replicate n false
bits_of-filled items octets count pending n whole few lt many is e =
    let r : ℕ = (count + n - 32) % 8 in
    let x : ℕ = pending * 2 ^ (32 - count) % 18446744073709551616 in
    let below : x < 2 ^ 32 = top_below count pending (omega arith) lt in
    let size : count + (32 - count) ≡ 32 = omega arith in
    let top : word_bits (count + (32 - count)) (pending * 2 ^ (32 - count)) ≡ word_bits count pending ++ replicate (32 - count) false = word_bits-shl count (32 - count) pending in
    let top32 : word_bits 32 x ≡ word_bits count pending ++ replicate (32 - count) false = word_bits-mod 32 64 (pending * 2 ^ (32 - count)) (omega arith) ∙ (rw size at top) in
    let four : bits_of octets ≡ word_bits count pending ++ replicate (32 - count) false = ap bits_of e ∙ bits_of-be x below ∙ top32 in
    let front : bits_of (items ++ octets) ≡ (bits_of items ++ word_bits count pending) ++ replicate (32 - count) false =
    bits_of-append items octets ∙ ap (λ b. bits_of items ++ b) four ∙ sym (append_assoc (bits_of items) (word_bits count pending) (replicate (32 - count) false)) in
    let all : bits_of ((items ++ octets) ++ replicate whole 0) ≡ ((bits_of items ++ word_bits count pending) ++ replicate (32 - count) false) ++ replicate (8 * whole) false =
    bits_of-append (items ++ octets) (replicate whole 0) ∙ ap₂ (λ (a b : List Bool). a ++ b) front (bits_of-zeros whole) in
    let sum : 32 - count + 8 * whole + r ≡ n = omega arith in
    let zeros : (replicate (32 - count) false ++ replicate (8 * whole) false) ++ replicate r false ≡ replicate n false =
    ap (λ b. b ++ replicate r false) (replicate-append-replicate (32 - count) (8 * whole) false)
    ∙ replicate-append-replicate (32 - count + 8 * whole) r false ∙ ap (λ m. replicate m false) sum in
    let old : List Bool = bits_of items ++ word_bits count pending in
    ap₂ (λ (a b : List Bool). a ++ b) all (word_bits-zero r)
    ∙ ap (λ b. b ++ replicate r false) (append_assoc old (replicate (32 - count) false) (replicate (8 * whole) false))
    ∙ append_assoc old (replicate (32 - count) false ++ replicate (8 * whole) false) (replicate r false)
    ∙ ap (λ b. old ++ b) zeros
