-- A command is refused for one reason at most.
use Rattle.std.proofs.Common.{◌≡◌, ℕ, ◌<◌, Bool, true, false, not, ◌&&◌, nat_eq, List, ◌⊎◌, inl, inr, refl, sym, ◌∙◌, ap, arith, if◌then◌else◌}
use Rattle.fax_runcodes.specs.Widths.{elements_of}
use Rattle.fax_frames.specs.declared.dcs.Dcs.{Dcs}
use Rattle.fax_frames.specs.Capabilities.{format_of, coding_of}
use Rattle.fax_pagestore.specs.declared.fault.PageFault.{PageFault}
use Rattle.fax_pagestore.specs.PageFaults.{FailsPage}
use Rattle.fax_pagestore.proofs.ReaderLemmas.{same_fault}
use Rattle.fax_answer.specs.declared.refusal.Refusal.{Refusal}
use Rattle.fax_answer.specs.declared.refusal.Refusal.TheVariants.{Fault, NotWhole, GapAfter, SeveralImages, NoImage, Untrained}
use Rattle.fax_answer.specs.declared.state.State.TheVariants.{Idle, Identify, Listen, Train, Page, Again, Closing}
use Rattle.fax_answer.specs.History.{Entry, since_answer, images, gap, last_image, last_whole}
use Rattle.fax_answer.specs.Table.{is_one_image}
use Rattle.fax_answer.specs.Refusals.{IsReasonInAgain, IsReasonInPage, ReasonsAreUnique}

-- the reason where not one image stands, whole and with nothing after it, by how many there are and whether the last is whole
abbrev lacking : ℕ → Bool → Refusal
lacking n whole = if nat_eq n 0 then NoImage else if nat_eq n 1 then (if whole then GapAfter else NotWhole) else SeveralImages

abbrev one_of : ℕ → Bool → Bool → Bool
one_of n whole gap = nat_eq n 1 && (whole && not gap)

not_none : (n : ℕ) → 1 < n → nat_eq n 0 ≡ false
not_none n h = grind (arith)

not_one : (n : ℕ) → 1 < n → nat_eq n 1 ≡ false
not_one n h = grind (arith)

-- a reason is the fault of the one image, or what is lacking
abbrev IsSettled : Dcs → List Entry → Refusal → Type 0
IsSettled dcs before r =
    ((fault : PageFault) × (r ≡ Fault fault) × (is_one_image (since_answer before) ≡ true) × FailsPage (elements_of (format_of dcs).width) (coding_of dcs) (last_image before) fault)
    ⊎ ((r ≡ lacking (images (since_answer before)) (last_whole (since_answer before))) × (is_one_image (since_answer before) ≡ false))

settled : (dcs : Dcs) (before : List Entry) (r : Refusal) → IsReasonInPage dcs before r → IsSettled dcs before r
settled dcs before (Fault fault) a = inl (fault, refl, a.0, a.1)
settled dcs before NotWhole a =
    let w : Bool = last_whole (since_answer before) in
    let g : Bool = gap (since_answer before) in
    inr (sym (ap (λ (n : ℕ). lacking n w) a.0 ∙ ap (λ (x : Bool). lacking 1 x) a.1), ap (λ (n : ℕ). one_of n w g) a.0 ∙ ap (λ (x : Bool). one_of 1 x g) a.1)
settled dcs before GapAfter a =
    let w : Bool = last_whole (since_answer before) in
    let g : Bool = gap (since_answer before) in
    inr (
      sym (ap (λ (n : ℕ). lacking n w) a.0 ∙ ap (λ (x : Bool). lacking 1 x) a.1),
      ap (λ (n : ℕ). one_of n w g) a.0 ∙ ap (λ (x : Bool). one_of 1 x g) a.1 ∙ ap (λ (x : Bool). one_of 1 true x) a.2,
    )
settled dcs before SeveralImages a =
    let n : ℕ = images (since_answer before) in
    let w : Bool = last_whole (since_answer before) in
    let g : Bool = gap (since_answer before) in
    inr (
      sym (ap (λ (x : Bool). if x then NoImage else if nat_eq n 1 then (if w then GapAfter else NotWhole) else SeveralImages) (not_none n a)
          ∙ ap (λ (x : Bool). if x then (if w then GapAfter else NotWhole) else SeveralImages) (not_one n a)),
      ap (λ (x : Bool). x && (w && not g)) (not_one n a),
    )
settled dcs before NoImage a =
    let w : Bool = last_whole (since_answer before) in
    let g : Bool = gap (since_answer before) in
    inr (sym (ap (λ (n : ℕ). lacking n w) a), ap (λ (n : ℕ). one_of n w g) a)
settled dcs before Untrained a = absurd a

both : (dcs : Dcs) (before : List Entry) (one other : Refusal) → IsSettled dcs before one → IsSettled dcs before other → one ≡ other
both dcs before one other (inl a) (inl b) =
    a.1 ∙ ap (λ (f : PageFault). Fault f) (same_fault (format_of dcs) (coding_of dcs) (last_image before) a.0 b.0 a.3 b.3) ∙ sym b.1
both dcs before one other (inl a) (inr b) = let k : true ≡ false = sym a.2 ∙ b.1 in cc
both dcs before one other (inr a) (inl b) = let k : true ≡ false = sym b.2 ∙ a.1 in cc
both dcs before one other (inr a) (inr b) = a.0 ∙ sym b.0

-- in Again
not_zero : (n : ℕ) → 0 < n → nat_eq n 0 ≡ false
not_zero n h = grind (arith)

abbrev lacking_again : ℕ → Refusal
lacking_again n = if nat_eq n 0 then NoImage else Untrained

settled_again : (before : List Entry) (r : Refusal) → IsReasonInAgain before r → r ≡ lacking_again (images (since_answer before))
settled_again before NoImage a = sym (ap lacking_again a)
settled_again before Untrained a = sym (ap (λ (x : Bool). if x then NoImage else Untrained) (not_zero (images (since_answer before)) a))
settled_again before (Fault fault) a = absurd a
settled_again before NotWhole a = absurd a
settled_again before GapAfter a = absurd a
settled_again before SeveralImages a = absurd a

pub one_reason : ReasonsAreUnique
one_reason (Page dcs) before one other a b = both dcs before one other (settled dcs before one a) (settled dcs before other b)
one_reason Again before one other a b = settled_again before one a ∙ sym (settled_again before other b)
one_reason Idle before one other a b = absurd a
one_reason Identify before one other a b = absurd a
one_reason Listen before one other a b = absurd a
one_reason (Train dcs) before one other a b = absurd a
one_reason Closing before one other a b = absurd a
