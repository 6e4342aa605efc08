use Rattle.std.proofs.Common.{◌≡◌, ◌==◌, ℕ, List, Bool, ◌+◌, ◌-◌, ◌*◌, ◌/◌, ◌≤◌, ◌<◌, ◌∷◌, [], ◌++◌, length, take, drop, map, sym, ap, ap₂, ◌∙◌, arith, add-one, All, subst, append_assoc, append-nil, length-append, refl, replicate, slice_get, Some, true, false}
use Rattle.std.proofs.Math.Nat.{mul-suc}
use borrow.Rule.Slice.PartMut.{put_mid, same_len_mid}
use Rattle.std.proofs.lemmas.Bool.{eqb-true}
use Rattle.std.proofs.lemmas.List.{length-replicate, replicate-append-replicate}
use Rattle.std.proofs.lemmas.Slice.{take-put_mid, drop-put_mid}
use Rattle.fax_bits.specs.Bits.{bits_of}
use Rattle.fax_bits.proofs.BitsLemmas.{bits_of-nil, bits_of-append, length-bits_of}
use Rattle.fax_runcodes.specs.declared.Width.{Width}
use Rattle.fax_runcodes.specs.declared.Colour.TheVariants.{White}
use Rattle.fax_runcodes.specs.Painted.{painted}
use Rattle.fax_runcodes.specs.Pixels.{pixel}
use Rattle.fax_runcodes.proofs.RowPixelsLemmas.{no_pixels}
use Rattle.fax_runcodes.specs.Rows.{Elements}
use Rattle.fax_runcodes.specs.Widths.{elements_of}
use Rattle.fax_c.specs.Calls.{pixels_of}
use Rattle.fax_c.proofs.PackedBits.{bits_are_packed}
use Rattle.fax_c.proofs.RunsLemmas.{take_more_at, pixels_of-push, pixels_length, step_within, row_width, octets_of_width, part_length, drop_further}
use Rattle.fax_c.proofs.reading.fill_pixels.Goals as goal

pub loop-i-init : goal.loop-i-init
loop-i-init g c = record { bits = bits_of-nil; filled = grind arith; order = omega arith; same = refl; after = refl }

pub returns-then-wanted-pixels-clause-puts : goal.returns-then-wanted-pixels-clause-puts
returns-then-wanted-pixels-clause-puts g c =
    let rows = c.args.page.now.rows in
    let width = c.args.page.now.format.width in
    let octets = c.from-octets.result in
    let eight : elements_of width ≡ 8 * octets = octets_of_width width c.elements.result octets c.from-octets.ensures (c.elements.ensures ∙ ap (λ f. elements_of f.width) c.format.ensures) in
    let each = subst (λ (n : ℕ). All (λ (r : Elements). length r ≡ n) rows) eight c.rows-rows.ensures.are_rows.each in
    let count : c.len.result ≡ length rows = c.len.ensures ∙ ap length c.rows-rows.ensures.same in
    let product : octets * c.len.result ≡ octets * length rows = ap (λ (n : ℕ). octets * n) count in
    let all : length (pixels_of rows) ≡ 8 * (octets * length rows) = pixels_length octets rows each in
    let packed = bits_are_packed (pixels_of rows) in
    let size : length (bits_of packed.0) ≡ 8 * length packed.0 = length-bits_of packed.0 in
    let zeros : ℕ = packed.1.0 in
    let bits : length (bits_of packed.0) ≡ length (pixels_of rows) + zeros = ap length packed.1.2 ∙ length-append (pixels_of rows) (replicate zeros false) ∙ ap (λ (n : ℕ). length (pixels_of rows) + n) (length-replicate zeros false) in
    (packed.0, packed.1, omega (arith, packed.1.1), c.if-wanted-pixels.true)

octets_fit : (pixels initial : List ℕ) (octets filled i n : ℕ) → octets * n ≤ length initial → length pixels ≡ length initial → filled ≡ octets * i → i < n → filled + octets ≤ length pixels
octets_fit pixels initial octets filled i n room same is before = omega (arith, step_within octets i n before)

-- rows are of whole octets
row_octets : (rows : List Elements) (i : ℕ) (row : Elements) (width : Width) (elements octets : ℕ) → All (λ (r : Elements). length r ≡ elements_of width) rows → slice_get rows i ≡ Some row
    → octets ≡ elements / 8 → elements ≡ elements_of width → length row ≡ 8 * octets
row_octets rows i row width elements octets each found is wide = row_width rows i row (elements_of width) each found ∙ octets_of_width width elements octets is wide

pub put_pixels-requires : goal.put_pixels-requires
put_pixels-requires g c =
    let rows = c.args.page.now.rows in
    let octets = c.from-octets.result in
    let so_far = c.loop-i.invariant in
    let wide = row_octets rows c.loop-i.i c.lend-row.result c.args.page.now.format.width c.elements.result octets c.rows-rows.ensures.are_rows.each (rw c.rows-rows.ensures.same at c.lend-row.ensures) c.from-octets.ensures (c.elements.ensures ∙ ap (λ f. elements_of f.width) c.format.ensures) in
    let fit : c.loop-i.filled + octets ≤ length c.loop-i.pixels = octets_fit c.loop-i.pixels c.args.pixels.now octets c.loop-i.filled c.loop-i.i c.len.result c.if-wanted-pixels.false so_far.same so_far.filled (omega (arith, c.len.ensures, c.len-i-end.ensures, c.loop-i-test.true)) in
    let part = part_length c.clear.new.octets c.loop-i.filled octets (omega (arith, fit, c.clear.ensures.same_room)) in
    wide ∙ ap (λ (n : ℕ). 8 * n) (sym part)

more_bits : (pixels new : List ℕ) (filled k octets : ℕ) (rows : List Elements) (i : ℕ) (row : Elements) → filled ≤ length pixels → length new ≡ octets
    → take (i + 1) rows ≡ take i rows ++ row ∷ [] → bits_of (take filled pixels) ≡ pixels_of (take i rows) → bits_of new ≡ map pixel row
    → bits_of (take (filled + octets) (put_mid filled k pixels new)) ≡ pixels_of (take (i + 1) rows)
more_bits pixels new filled k octets rows i row within size next so_far is =
    ap bits_of (take-put_mid filled k pixels new (filled + octets) (ap (λ (n : ℕ). filled + n) (sym size)) within)
    ∙ bits_of-append (take filled pixels) new
    ∙ ap (λ (bs : List Bool). bs ++ bits_of new) so_far
    ∙ ap (λ (bs : List Bool). pixels_of (take i rows) ++ bs) is
    ∙ sym (pixels_of-push (take i rows) row) ∙ ap pixels_of (sym next)

-- a white row more, which is not put yet
more_white : (pixels : List ℕ) (white filled octets : ℕ) (rows : List Elements) (i : ℕ) (row : Elements) → white ≤ filled → length row ≡ 8 * octets → row ≡ painted White 0 [] (length row)
    → take (i + 1) rows ≡ take i rows ++ row ∷ [] → bits_of (take white pixels ++ replicate (filled - white) 0) ≡ pixels_of (take i rows)
    → bits_of (take white pixels ++ replicate (filled + octets - white) 0) ≡ pixels_of (take (i + 1) rows)
more_white pixels white filled octets rows i row order wide is next so_far =
    let count : filled + octets - white ≡ filled - white + octets = omega arith in
    ap (λ (n : ℕ). bits_of (take white pixels ++ replicate n 0)) count
    ∙ ap (λ (zs : List ℕ). bits_of (take white pixels ++ zs)) (sym (replicate-append-replicate (filled - white) octets 0))
    ∙ ap bits_of (sym (append_assoc (take white pixels) (replicate (filled - white) 0) (replicate octets 0)))
    ∙ bits_of-append (take white pixels ++ replicate (filled - white) 0) (replicate octets 0)
    ∙ ap₂ (λ (a b : List Bool). a ++ b) so_far (no_pixels octets (length row) wide ∙ ap (map pixel) (sym is))
    ∙ sym (pixels_of-push (take i rows) row) ∙ ap pixels_of (sym next)

-- nothing is left to put after a row
no_more : (pixels : List ℕ) (n : ℕ) → bits_of (take n pixels ++ replicate (n - n) 0) ≡ bits_of (take n pixels)
no_more pixels n =
    let none : n - n ≡ 0 = omega arith in
    rw none (ap bits_of (append-nil (take n pixels)))

-- no changing place
no_places : (places : List ℕ) → true ≡ (length places == 0) → places ≡ []
no_places [] e = refl
no_places (place ∷ places) e = absurd (let none : length (place ∷ places) ≡ 0 = eqb-true (length (place ∷ places)) 0 (sym e) in omega arith)

pub loop-i-preserved : goal.loop-i-preserved
loop-i-preserved g c =
    let rows = c.args.page.now.rows in
    let octets = c.from-octets.result in
    let i = c.loop-i.i in
    let filled = c.loop-i.filled in
    let white = c.loop-i.white in
    let pixels = c.loop-i.pixels in
    let cleared = c.clear.new.octets in
    let new = c.put_pixels.new.octets in
    let so_far = c.loop-i.invariant in
    let next : take (i + 1) rows ≡ take i rows ++ c.lend-row.result ∷ [] = take_more_at rows i c.lend-row.result (rw c.rows-rows.ensures.same at c.lend-row.ensures) in
    let k : ℕ = filled + octets - filled in
    let room : filled + octets ≤ length pixels = octets_fit pixels c.args.pixels.now octets filled i c.len.result c.if-wanted-pixels.false so_far.same so_far.filled (omega (arith, c.len.ensures, c.len-i-end.ensures, c.loop-i-test.true)) in
    let fit : filled + octets ≤ length cleared = omega (arith, room, c.clear.ensures.same_room) in
    let part : length (take k (drop filled cleared)) ≡ octets = part_length cleared filled octets fit in
    let size : length new ≡ octets = c.put_pixels.ensures.same_room ∙ part in
    let order : white + (filled - white) ≡ filled = omega (arith, so_far.order) in
    let after : drop filled pixels ≡ drop filled c.args.pixels.now = rw order at (drop_further pixels c.args.pixels.now white (filled - white) so_far.after) in
    record {
      bits = no_more (put_mid filled k cleared new) (filled + octets)
          ∙ more_bits cleared new filled k octets rows i c.lend-row.result (omega (arith, fit)) size next (ap bits_of c.clear.ensures.zeros ∙ so_far.bits) c.put_pixels.ensures.bits;
      filled = ap (λ (n : ℕ). n + octets) so_far.filled ∙ sym (mul-suc octets i) ∙ ap (λ (n : ℕ). octets * n) (sym (add-one i));
      order = omega arith;
      same = same_len_mid filled k cleared new c.put_pixels.ensures.same_room ∙ c.clear.ensures.same_room ∙ so_far.same;
      after = drop-put_mid filled k cleared new (filled + octets) (omega arith) (omega (arith, fit)) (omega (arith, size)) ∙ drop_further cleared c.args.pixels.now filled octets (c.clear.ensures.after ∙ after);
    }

pub loop-i-preserved-then-is_empty : goal.loop-i-preserved-then-is_empty
loop-i-preserved-then-is_empty g c =
    let rows = c.args.page.now.rows in
    let octets = c.from-octets.result in
    let i = c.loop-i.i in
    let so_far = c.loop-i.invariant in
    let row = c.lend-row.result in
    let found = rw c.rows-rows.ensures.same at c.lend-row.ensures in
    let wide = row_octets rows i row c.args.page.now.format.width c.elements.result octets c.rows-rows.ensures.are_rows.each found c.from-octets.ensures (c.elements.ensures ∙ ap (λ f. elements_of f.width) c.format.ensures) in
    let none : c.changes.result.now ≡ [] = no_places c.changes.result.now c.if-is_empty.ensures in
    record {
      bits = more_white c.loop-i.pixels c.loop-i.white c.loop-i.filled octets rows i row so_far.order wide
          (c.changes.ensures.painted ∙ ap (λ (ps : List ℕ). painted White 0 ps (length row)) none) (take_more_at rows i row found) so_far.bits;
      filled = ap (λ (n : ℕ). n + octets) so_far.filled ∙ sym (mul-suc octets i) ∙ ap (λ (n : ℕ). octets * n) (sym (add-one i));
      order = omega (arith, so_far.order);
      same = so_far.same;
      after = so_far.after;
    }

-- from the last white rows on nothing is changed, so after them too
pub returns-clause-after : goal.returns-clause-after
returns-clause-after g c =
    let order : c.loop-i.white + (c.loop-i.filled - c.loop-i.white) ≡ c.loop-i.filled = omega (arith, c.loop-i.invariant.order) in
    c.clear-2.ensures.after ∙ rw order at (drop_further c.loop-i.pixels c.args.pixels.now c.loop-i.white (c.loop-i.filled - c.loop-i.white) c.loop-i.invariant.after)
