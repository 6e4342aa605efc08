-- Laws of the faults of one-dimensional lines: bits that begin with a line don't fail, and bits fail in
-- one way.
use Rattle.std.proofs.Common.{◌≡◌, ℕ, ◌+◌, ◌<◌, ◌≤◌, Bool, List, [], ◌∷◌, ◌++◌, sum, refl, sym, ◌∙◌, ap, ap₂, subst, arith, append_assoc, append-nil, inl, inr, ◌⊎◌, Result, Ok, Err, IsOk, OnOk, IfErr}
use Rattle.std.proofs.lemmas.List.{append_cancel_left}
use Rattle.std.proofs.lemmas.List.Sums.{sum_by-append}
use Rattle.fax_runcodes.specs.declared.Colour.{Colour}
use Rattle.fax_runcodes.specs.declared.Colour.TheVariants.{White}
use Rattle.fax_runcodes.specs.declared.fault.RunFault.{RunFault}
use Rattle.fax_runcodes.specs.Rows.{Elements, other}
use Rattle.fax_runcodes.specs.Spelling.{SpellsRun}
use Rattle.fax_runcodes.specs.RunFaults.{ReadsRun}
use Rattle.fax_runcodes.proofs.RunLaws.{SpellsRun-one, ReadsRun-not_fails, FailsRun-one}
use Rattle.fax_runcodes.proofs.PaintedLemmas.{colour_then}
use Rattle.fax_mhcode.specs.Lines.{SpellsRuns, SpellsLine}
use Rattle.fax_mhcode.specs.LineFaults.{FailsLine, Stops, colour_after}
use Rattle.fax_mhcode.specs.declared.fault.LineFault.{LineFault}
use Rattle.fax_mhcode.specs.declared.fault.LineFault.TheVariants.{Run, PastWidth, NoMode, BadPlace, NoMemory}
use Rattle.fax_mhcode.proofs.LineLemmas.{colour_after_is}
use Rattle.fax_mhcode.proofs.LineLaws.{sum-cons, SpellsLine-one}

-- one list of runs goes on where the other ends
pub record GoesOn (colour : Colour) (ms ns : List ℕ) (x y : List Bool) : Type 0 where
  pub more : List ℕ
  pub text : List Bool
  pub runs : ns ≡ ms ++ more
  pub bits : x ≡ text ++ y
  pub spelt : SpellsRuns (colour_then colour ms) text more

-- Of two lists of runs that begin the same bits one goes on where the other ends.
pub meet : (colour : Colour) (ms ns : List ℕ) (s t x y : List Bool) → SpellsRuns colour s ms → SpellsRuns colour t ns → s ++ x ≡ t ++ y → GoesOn colour ms ns x y ⊎ GoesOn colour ns ms y x
meet colour [] ns s t x y p q e = inl (record { more = ns; text = t; runs = refl; bits = ap (λ b. b ++ x) (sym p) ∙ e; spelt = q })
meet colour (m ∷ ms) [] s t x y p q e = inr (record { more = m ∷ ms; text = s; runs = refl; bits = ap (λ b. b ++ y) (sym q) ∙ sym e; spelt = p })
meet colour (m ∷ ms) (n ∷ ns) s t x y (f, r, es, pf, pr) (g, u, et, qg, qu) e =
    let whole : f ++ (r ++ x) ≡ g ++ (u ++ y) = sym (append_assoc f r x) ∙ ap (λ b. b ++ x) (sym es) ∙ e ∙ ap (λ b. b ++ y) et ∙ append_assoc g u y in
    let first : (f ≡ g) × (m ≡ n) = SpellsRun-one colour f g m n (r ++ x) (u ++ y) pf qg whole in
    let rest : r ++ x ≡ u ++ y = append_cancel_left f (r ++ x) (u ++ y) (whole ∙ ap (λ b. b ++ (u ++ y)) (sym first.0)) in
    elim (meet (other colour) ms ns r u x y pr qu rest) [
      | inl k ↦ inl (record { more = k.more; text = k.text; runs = ap₂ (λ (a : ℕ) (b : List ℕ). a ∷ b) (sym first.1) k.runs; bits = k.bits; spelt = k.spelt })
      | inr k ↦ inr (record { more = k.more; text = k.text; runs = ap₂ (λ (a : ℕ) (b : List ℕ). a ∷ b) first.1 k.runs; bits = k.bits; spelt = k.spelt })
    ]

-- bits that begin with a run that stays within the width are not where reading stops
begun_not_stopped : (width : ℕ) (runs : List ℕ) (bits : List Bool) (fault : LineFault) (n : ℕ) (rest : List Bool) → ReadsRun (colour_after runs) bits n rest → sum runs + n ≤ width → Stops width runs bits fault → ⊥
begun_not_stopped width runs bits (Run f) n rest r le s = ReadsRun-not_fails (colour_after runs) bits n rest f r s
begun_not_stopped width runs bits PastWidth n rest r le (m, more, q, lt) =
    let one = SpellsRun-one (colour_after runs) q.text r.text m n more rest q.spelt r.spelt (sym q.bits_are ∙ r.bits_are) in
    omega (arith, one.1)
begun_not_stopped width runs bits NoMode n rest r le s = s
begun_not_stopped width runs bits BadPlace n rest r le s = s
begun_not_stopped width runs bits NoMemory n rest r le s = s

-- where runs go on with one more within the width, reading doesn't stop
goes_on_not_stopped : (width : ℕ) (ms ns : List ℕ) (x y : List Bool) (fault : LineFault) → width ≤ 2432 → (more : List ℕ) (text : List Bool) → ns ≡ ms ++ more → x ≡ text ++ y → SpellsRuns (colour_then White ms) text more
    → sum ms < sum ns → sum ns ≤ width → Stops width ms x fault → ⊥
goes_on_not_stopped width ms ns x y fault w [] text e b p lt le s =
    let same : sum ns ≡ sum ms = ap sum (e ∙ append-nil ms) in
    omega arith
goes_on_not_stopped width ms ns x y fault w (n ∷ more) text e b (f, r, et, pf, pr) lt le s =
    let sums : sum ns ≡ sum ms + sum (n ∷ more) = ap sum e ∙ sum_by-append (λ k. k) ms (n ∷ more) in
    let sum2 : sum (n ∷ more) ≡ n + sum more = sum-cons n more in
    let reads : ReadsRun (colour_after ms) x n (r ++ y) = record {
      text = f;
      spelt = subst (λ c. SpellsRun c f n) (colour_after_is ms) pf;
      within = omega arith;
      bits_are = b ∙ ap (λ k. k ++ y) et ∙ append_assoc f r y;
    } in
    begun_not_stopped width ms x fault n (r ++ y) reads (omega arith) s

-- What begins with a line doesn't fail.
pub SpellsLine-not_fails : (width : ℕ) (bits text rest : List Bool) (row : Elements) (fault : LineFault) → width ≤ 2432 → SpellsLine width text row → bits ≡ text ++ rest → FailsLine width bits fault → ⊥
SpellsLine-not_fails width bits text rest row fault w l e f =
    elim (meet White f.runs l.runs f.text text f.rest rest f.spelt l.spelt (sym f.bits_are ∙ e)) [
      | inl k ↦ goes_on_not_stopped width f.runs l.runs f.rest rest fault w k.more k.text k.runs k.bits k.spelt (omega (arith, l.whole, f.within)) (omega (arith, l.whole)) f.stops
      | inr k ↦
          let sums : sum f.runs ≡ sum l.runs + sum k.more = ap sum k.runs ∙ sum_by-append (λ n. n) l.runs k.more in
          omega (arith, f.within, l.whole)
    ]

stops_one : (width : ℕ) (runs : List ℕ) (bits : List Bool) (f g : LineFault) → Stops width runs bits f → Stops width runs bits g → f ≡ g
stops_one width runs bits (Run f) (Run g) s t = ap (λ (x : RunFault). Run x) (FailsRun-one (colour_after runs) bits f g s t)
stops_one width runs bits (Run f) PastWidth s (n, rest, r, lt) = absurd (ReadsRun-not_fails (colour_after runs) bits n rest f r s)
stops_one width runs bits PastWidth (Run g) (n, rest, r, lt) t = absurd (ReadsRun-not_fails (colour_after runs) bits n rest g r t)
stops_one width runs bits PastWidth PastWidth s t = refl
stops_one width runs bits (Run f) NoMode s t = absurd t
stops_one width runs bits (Run f) BadPlace s t = absurd t
stops_one width runs bits (Run f) NoMemory s t = absurd t
stops_one width runs bits PastWidth NoMode s t = absurd t
stops_one width runs bits PastWidth BadPlace s t = absurd t
stops_one width runs bits PastWidth NoMemory s t = absurd t
stops_one width runs bits NoMode g s t = absurd s
stops_one width runs bits BadPlace g s t = absurd s
stops_one width runs bits NoMemory g s t = absurd s

-- where one fault's runs go on with more of the other's
fails_one : (width : ℕ) (bits : List Bool) (f g : LineFault) → width ≤ 2432 → (p : FailsLine width bits f) (q : FailsLine width bits g)
    → (more : List ℕ) (text : List Bool) → q.runs ≡ p.runs ++ more → p.rest ≡ text ++ q.rest → SpellsRuns (colour_then White p.runs) text more → f ≡ g
fails_one width bits f g w p q [] text e b spelt =
    let runs : q.runs ≡ p.runs = e ∙ append-nil p.runs in
    let rest : p.rest ≡ q.rest = b ∙ ap (λ k. k ++ q.rest) spelt in
    stops_one width p.runs p.rest f g p.stops (subst (λ k. Stops width p.runs k g) (sym rest) (subst (λ ns. Stops width ns q.rest g) runs q.stops))
fails_one width bits f g w p q (n ∷ more) text e b (h, r, et, ph, pr) =
    let sums : sum q.runs ≡ sum p.runs + sum (n ∷ more) = ap sum e ∙ sum_by-append (λ k. k) p.runs (n ∷ more) in
    let sum2 : sum (n ∷ more) ≡ n + sum more = sum-cons n more in
    let reads : ReadsRun (colour_after p.runs) p.rest n (r ++ q.rest) = record {
      text = h;
      spelt = subst (λ c. SpellsRun c h n) (colour_after_is p.runs) ph;
      within = omega (arith, q.within);
      bits_are = b ∙ ap (λ k. k ++ q.rest) et ∙ append_assoc h r q.rest;
    } in
    absurd (begun_not_stopped width p.runs p.rest f n (r ++ q.rest) reads (omega (arith, q.within)) p.stops)

-- Bits fail in one way.
pub FailsLine-one : (width : ℕ) (bits : List Bool) (f g : LineFault) → width ≤ 2432 → FailsLine width bits f → FailsLine width bits g → f ≡ g
FailsLine-one width bits f g w p q =
    elim (meet White p.runs q.runs p.text q.text p.rest q.rest p.spelt q.spelt (sym p.bits_are ∙ q.bits_are)) [
      | inl k ↦ fails_one width bits f g w p q k.more k.text k.runs k.bits k.spelt
      | inr k ↦ sym (fails_one width bits g f w q p k.more k.text k.runs k.bits k.spelt)
    ]

-- ---- what an exact reader answers
pub reads_from : {T : Type 0} (width : ℕ) (bits : List Bool) (result : Result T LineFault) (line : Elements) → width ≤ 2432
    → OnOk result ((text rest : List Bool) × SpellsLine width text line × (bits ≡ text ++ rest)) → IfErr result (λ fault. FailsLine width bits fault)
    → (row : Elements) (text rest : List Bool) → SpellsLine width text row → bits ≡ text ++ rest → IsOk result × (line ≡ row)
reads_from width bits (Ok t) line w o e row text rest l b = (refl, (SpellsLine-one width o.0 text line row o.1 rest o.2 l (sym o.3 ∙ b)).1)
reads_from width bits (Err fault) line w o e row text rest l b = absurd (SpellsLine-not_fails width bits text rest row fault w l b e)

pub fails_from : {T : Type 0} (width : ℕ) (bits : List Bool) (result : Result T LineFault) (line : Elements) → width ≤ 2432
    → OnOk result ((text rest : List Bool) × SpellsLine width text line × (bits ≡ text ++ rest)) → IfErr result (λ fault. FailsLine width bits fault)
    → (fault : LineFault) → FailsLine width bits fault → result ≡ Err fault
fails_from width bits (Ok t) line w o e fault f = absurd (SpellsLine-not_fails width bits o.0 o.1 line fault w o.2 o.3 f)
fails_from width bits (Err other) line w o e fault f = ap (λ (k : LineFault). Err k) (FailsLine-one width bits other fault w e f)
