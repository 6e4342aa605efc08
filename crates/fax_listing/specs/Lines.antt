-- Jobs as lines of JSON (RFC 8259; which members they have is this project's profile, and as events have them).
use Rattle.std.specs.Prelude.{◌≡◌, ℕ, not, ◌&&◌, nat_eq, length, List, [], ◌∷◌, ◌++◌, codes, decimal, Option, None, Some, if◌then◌else◌}
use Rattle.std.specs.Str.{is_utf8}
use Rattle.std.specs.Str.Lossy.{utf8_lossy}
use Rattle.json.specs.Token.{Token, begin_object, end_object, key, string, number, null}
use Rattle.json.specs.Print.{print}
use Rattle.json.specs.Written.{Written}
use Rattle.fax_runcodes.specs.Widths.{elements_of}
use Rattle.fax_runcodes.specs.declared.format.Format.{Format}
use Rattle.fax_jobs.specs.ReportTexts.{resolution_name}
use Rattle.fax_listing.specs.Jobs.{JobValue, state_name}
use Rattle.fax_listing.specs.Shown.{shown}

abbrev pub text_member : List ℕ → List ℕ → List Token
text_member name text = key name ∷ string text ∷ []

abbrev pub number_member : List ℕ → ℕ → List Token
number_member name n = key name ∷ number (decimal n) ∷ []

-- the tag of a call, where it has one that is text
abbrev pub tag_shown : List ℕ → Option (List ℕ)
tag_shown tag = if is_utf8 tag && not (nat_eq (length tag) 0) then Some tag else None

abbrev pub tag_value : Option (List ℕ) → Token
tag_value None = null
tag_value (Some tag) = string tag

abbrev pub tag_member : Option (List ℕ) → List Token
tag_member tag = key (codes "tag") ∷ tag_value tag ∷ []

abbrev pub format_members : Format → List Token
format_members format = number_member (codes "width") (elements_of format.width)
    ++ text_member (codes "resolution") (resolution_name format.fine)

-- What is told of a job on the line of this name: its state, its call, the number of its first page that waits, how many wait, and the
-- format of that first one.
abbrev pub job_members : (name : List ℕ) → JobValue → List Token
job_members name job =
    text_member (codes "state") (state_name job.state) ++ (text_member (codes "line") name
    ++ (number_member (codes "life") job.first.life ++ (number_member (codes "call") job.first.call
    ++ (tag_member (tag_shown job.first.tag) ++ (number_member (codes "first") job.first.number
    ++ (number_member (codes "pages") job.pages ++ format_members job.first.format))))))

-- A job as an object. What is no UTF-8 of the name of its line is told as U+FFFD.
abbrev pub job_tokens : JobValue → List Token
job_tokens job = begin_object ∷ (job_members (utf8_lossy job.first.line) job ++ end_object ∷ [])

-- the line of a job, its line feed with it: JSON with no space, in ASCII
abbrev pub job_line : JobValue → List ℕ
job_line job = shown (print (job_tokens job)) ++ 10 ∷ []

-- Some tokens were written after those before.
pub record Adds (old new : Written) (tokens : List Token) : Type 0 where
  pub before : new.before ≡ old.before
  pub added : new.tokens ≡ old.tokens ++ tokens
