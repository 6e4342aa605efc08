-- When the open job takes a page.
use Rattle.std.proofs.Common.{◌≡◌, ℕ, ◌<◌, ◌≤◌, ◌⊎◌, inl, inr, Bool, true, false, ◌&&◌, length, refl, nat_eq, nat_lt, arith}
use Rattle.fax_jobs.specs.Jobs.{JobValue, most_pages}
use Rattle.fax_jobs.specs.Books.{takes_page}

both : (a b : Bool) → (a && b) ≡ true → (a ≡ true) × (b ≡ true)
both true b h = (refl, h)
both false b h = cc

refused : (a b : Bool) → (a && b) ≡ false → (a ≡ false) ⊎ (b ≡ false)
refused true b h = inr h
refused false b h = inl refl

below : (n : ℕ) → nat_lt n most_pages ≡ true → n < most_pages
below n h = grind (arith)

above : (n : ℕ) → nat_lt n most_pages ≡ false → most_pages ≤ n
above n h = grind (arith)

unequal : (m n : ℕ) → nat_eq m n ≡ false → m ≡ n → ⊥
unequal m n h e = grind (arith)

-- where a page is taken, the job has fewer than 999
pub taken_page : (job : JobValue) (call : ℕ) → takes_page job call ≡ true → length job.pages < most_pages
taken_page job call t = below (length job.pages) (both (nat_eq job.call call) (nat_lt (length job.pages) most_pages) t).1

-- where it is not, and came in the job's call, the job has 999
pub refused_page : (job : JobValue) (call : ℕ) → job.call ≡ call → takes_page job call ≡ false → most_pages ≤ length job.pages
refused_page job call e t = by (refused (nat_eq job.call call) (nat_lt (length job.pages) most_pages) t)
  where
    by : (nat_eq job.call call ≡ false) ⊎ (nat_lt (length job.pages) most_pages ≡ false) → most_pages ≤ length job.pages
    by (inl n) = absurd (unequal job.call call n e)
    by (inr f) = above (length job.pages) f
