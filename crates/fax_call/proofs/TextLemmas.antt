-- A writer of the text of a page that has given nothing.
use Rattle.std.proofs.Common.{◌≡◌, ℕ, List, Some, refl, sym, ◌∙◌, ap, subst, slice_get}
use Rattle.fax_runcodes.specs.declared.format.Coding.{Coding}
use Rattle.fax_runcodes.specs.declared.format.Format.{Format}
use Rattle.fax_pagestore.specs.Pages.{PageValue, IsPage}
use Rattle.fax_pagestore.specs.Writers.{WriterValue, IsTextOf, HasLeft}
use Rattle.fax_frames.specs.declared.dcs.Dcs.{Dcs}
use Rattle.fax_frames.specs.Capabilities.{coding_of, least_bits_of}
use Rattle.fax_jobs.specs.Jobs.{JobValue}
use Rattle.fax_call.specs.Writings.{Writing, IsWriting}
use Rattle.fax_call.specs.Calls.{text_if, text_at}
use Rattle.fax_call.specs.Following.{HasTextLeft}

-- what a new writer of a format has left, however it writes
abbrev pub HasAll : Format → Coding → ℕ → WriterValue → Type 0
HasAll format coding least writer = (page : PageValue) (octets : List ℕ) → page.format ≡ format → IsTextOf page coding least octets → HasLeft page octets writer

pub all_left : (writes : Writing) (job : JobValue) (n : ℕ) (page : PageValue) (dcs : Dcs) (writer : WriterValue) → IsWriting writes → IsPage page
    → slice_get job.pages n ≡ Some page → HasAll page.format (coding_of dcs) (least_bits_of dcs) writer → HasTextLeft writes job n dcs 0 writer
all_left writes job n page dcs writer writing is at all value is_at =
    let same : Some page ≡ Some value = sym at ∙ is_at in
    let one : page ≡ value = cc in
    let w = writing page (coding_of dcs) (least_bits_of dcs) is in
    let text : text_at writes job n dcs ≡ writes page (coding_of dcs) (least_bits_of dcs) = ap (text_if writes dcs) at in
    subst (λ (v : PageValue). HasLeft v (text_at writes job n dcs) writer) one
    (subst (λ (os : List ℕ). HasLeft page os writer) (sym text)
    (all page (writes page (coding_of dcs) (least_bits_of dcs)) refl (record { are_octets = w.are_octets; text = w.text; writes = w.writes; padded = w.padded })))
