-- Directories and strips, one after the other.
use Rattle.std.proofs.Common.{◌≡◌, ◌≢◌, ℕ, zero, suc, ◌+◌, ◌-◌, ◌<◌, ◌==◌, true, false, if◌then◌else◌, List, [], ◌∷◌, ◌++◌, Result, Ok, Err, refl, sym, ◌∙◌, ap, arith, append_assoc, append-nil, eq-eqb}
use Rattle.std.proofs.lemmas.Bool.{ne_eqb}
use Rattle.fax_tiff.specs.declared.number.ByteOrder.{ByteOrder}
use Rattle.fax_tiff.specs.declared.fault.TiffFault.{TiffFault}
use Rattle.fax_tiff.specs.declared.fault.TiffFault.TheVariants.{TooManyPages}
use Rattle.fax_tiff.specs.Directories.{◌>>=◌, NumbersValue}
use Rattle.fax_tiff.specs.ReadTiffs.{PageText, PageRead, page_at, pages_at, strip_at, strips_from}

-- ---- pages

-- these pages, and those that are read
abbrev pub with_pages : List PageText → Result (List PageText) TiffFault → Result (List PageText) TiffFault
with_pages pages read = read >>= λ more. Ok (pages ++ more)

pub with_no_pages : (read : Result (List PageText) TiffFault) → with_pages [] read ≡ read
with_no_pages (Ok more) = refl
with_no_pages (Err fault) = refl

one_more : (pages : List PageText) (page : PageText) (read : Result (List PageText) TiffFault)
    → with_pages (pages ++ page ∷ []) read ≡ with_pages pages (read >>= λ more. Ok (page ∷ more))
one_more pages page (Ok more) = ap (λ (l : List PageText). Ok l) (append_assoc pages (page ∷ []) more)
one_more pages page (Err fault) = refl

pub chain_ends : (most : ℕ) (order : ByteOrder) (octets : List ℕ) (place left : ℕ) → place ≡ 0 → pages_at most order octets place left ≡ Ok []
unfolding pages_at
chain_ends zero order octets place left e = ap (λ b. if b then Ok [] else Err TooManyPages) (eq-eqb place 0 e)
chain_ends (suc most) order octets place left e =
    ap (λ b. if b then Ok [] else (page_at order octets place left >>= λ read. pages_at most order octets read.next read.left >>= λ more. Ok (read.page ∷ more))) (eq-eqb place 0 e)

pub chain_is_full : (order : ByteOrder) (octets : List ℕ) (place left : ℕ) → place ≢ 0 → pages_at 0 order octets place left ≡ Err TooManyPages
unfolding pages_at
chain_is_full order octets place left e = ap (λ b. if b then Ok [] else Err TooManyPages) (ne_eqb place 0 e)

pub chain_at : (most : ℕ) (order : ByteOrder) (octets : List ℕ) (place left : ℕ) → place ≢ 0
    → pages_at (suc most) order octets place left ≡ (page_at order octets place left >>= λ read. pages_at most order octets read.next read.left >>= λ more. Ok (read.page ∷ more))
unfolding pages_at
chain_at most order octets place left e =
    ap (λ b. if b then Ok [] else (page_at order octets place left >>= λ read. pages_at most order octets read.next read.left >>= λ more. Ok (read.page ∷ more))) (ne_eqb place 0 e)

-- a page is read, and the chain goes on
pub chain_goes_on : (most less : ℕ) (order : ByteOrder) (octets : List ℕ) (place left : ℕ) (pages : List PageText) (read : PageRead) → most ≡ suc less → place ≢ 0
    → page_at order octets place left ≡ Ok read
    → with_pages (pages ++ read.page ∷ []) (pages_at less order octets read.next read.left) ≡ with_pages pages (pages_at most order octets place left)
chain_goes_on most less order octets place left pages read is some e =
    one_more pages read.page (pages_at less order octets read.next read.left)
    ∙ ap (λ r. with_pages pages (r >>= λ found. pages_at less order octets found.next found.left >>= λ more. Ok (found.page ∷ more))) (sym e)
    ∙ ap (λ r. with_pages pages r) (sym (chain_at less order octets place left some))
    ∙ ap (λ (n : ℕ). with_pages pages (pages_at n order octets place left)) (sym is)

-- a page is not read
pub chain_fails : (most less : ℕ) (order : ByteOrder) (octets : List ℕ) (place left : ℕ) (fault : TiffFault) → most ≡ suc less → place ≢ 0
    → page_at order octets place left ≡ Err fault → pages_at most order octets place left ≡ Err fault
chain_fails most less order octets place left fault is some e =
    ap (λ (n : ℕ). pages_at n order octets place left) is ∙ chain_at less order octets place left some
    ∙ ap (λ r. r >>= λ found. pages_at less order octets found.next found.left >>= λ more. Ok (found.page ∷ more)) e

-- ---- strips

-- these octets, and the strips that are read
abbrev pub with_octets : List ℕ → Result (List ℕ × ℕ) TiffFault → Result (List ℕ × ℕ) TiffFault
with_octets octets read = read >>= λ more. Ok (octets ++ more.0, more.1)

pub with_no_octets : (read : Result (List ℕ × ℕ) TiffFault) → with_octets [] read ≡ read
with_no_octets (Ok more) = refl
with_no_octets (Err fault) = refl

one_strip_more : (before strip : List ℕ) (read : Result (List ℕ × ℕ) TiffFault)
    → with_octets (before ++ strip) read ≡ with_octets before (read >>= λ more. Ok (strip ++ more.0, more.1))
one_strip_more before strip (Ok more) = ap (λ (l : List ℕ). Ok (l, more.1)) (append_assoc before strip more.0)
one_strip_more before strip (Err fault) = refl

pub no_strips : (order : ByteOrder) (octets : List ℕ) (places counts : NumbersValue) (i left : ℕ) → strips_from 0 order octets places counts i left ≡ Ok ([], left)
unfolding strips_from
no_strips order octets places counts i left = refl

strips_at : (n : ℕ) (order : ByteOrder) (octets : List ℕ) (places counts : NumbersValue) (i left : ℕ) → strips_from (suc n) order octets places counts i left
    ≡ (strip_at order octets places counts i left >>= λ strip. strips_from n order octets places counts (i + 1) strip.1 >>= λ more. Ok (strip.0 ++ more.0, more.1))
unfolding strips_from
strips_at n order octets places counts i left = refl

-- a strip is read, and others follow
pub strips_go_on : (n less : ℕ) (order : ByteOrder) (octets : List ℕ) (places counts : NumbersValue) (i left : ℕ) (before strip : List ℕ) (after : ℕ) → n ≡ suc less
    → strip_at order octets places counts i left ≡ Ok (strip, after)
    → with_octets (before ++ strip) (strips_from less order octets places counts (i + 1) after) ≡ with_octets before (strips_from n order octets places counts i left)
strips_go_on n less order octets places counts i left before strip after is e =
    one_strip_more before strip (strips_from less order octets places counts (i + 1) after)
    ∙ ap (λ r. with_octets before (r >>= λ found. strips_from less order octets places counts (i + 1) found.1 >>= λ more. Ok (found.0 ++ more.0, more.1))) (sym e)
    ∙ ap (λ r. with_octets before r) (sym (strips_at less order octets places counts i left))
    ∙ ap (λ (m : ℕ). with_octets before (strips_from m order octets places counts i left)) (sym is)

-- a strip is not read
pub strips_fail : (n less : ℕ) (order : ByteOrder) (octets : List ℕ) (places counts : NumbersValue) (i left : ℕ) (fault : TiffFault) → n ≡ suc less
    → strip_at order octets places counts i left ≡ Err fault → strips_from n order octets places counts i left ≡ Err fault
strips_fail n less order octets places counts i left fault is e =
    ap (λ (m : ℕ). strips_from m order octets places counts i left) is ∙ strips_at less order octets places counts i left
    ∙ ap (λ r. r >>= λ found. strips_from less order octets places counts (i + 1) found.1 >>= λ more. Ok (found.0 ++ more.0, more.1)) e
