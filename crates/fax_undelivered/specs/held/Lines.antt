-- What is done with one of many lines. (This project's profile.)
use Rattle.std.specs.Prelude.{◌≡◌, ◌⊎◌, ◌≤◌, ℕ, true, List, [], length, slice_get, slice_set, Some, None}
use Rattle.fax_spool.specs.RecordOctets.{PageValue}
use Rattle.fax_queue.specs.Queues.{QueueValue}

-- none of the pages of a line waits
abbrev pub fresh : (line : List ℕ) → QueueValue
fresh line =
    record { line = line; waits = []; is_whole = true; tags = []; aside = []; newest = None }

-- So its queue and its texts changed, and no others.
pub record ChangesLine (line : ℕ)
    (change : (old new : QueueValue) → (olds news : List PageValue) → Type 0)
    (olds news : List QueueValue) (texts after : List (List PageValue)) : Type 0 where
  pub old : QueueValue
  pub new : QueueValue
  pub was : slice_get olds line ≡ Some old
  pub are : news ≡ slice_set olds line new
  pub before : List PageValue
  pub left : List PageValue
  pub had : slice_get texts line ≡ Some before
  pub have : after ≡ slice_set texts line left
  pub changed : change old new before left

-- where there is such a line
abbrev pub ChangesIf : (line : ℕ) → ((old new : QueueValue) → (olds news : List PageValue) → Type 0)
    → (olds news : List QueueValue) → (texts after : List (List PageValue)) → Type 0
ChangesIf line change olds news texts after =
    (((length olds ≤ line) ⊎ (length texts ≤ line)) × (news ≡ olds) × (after ≡ texts))
    ⊎ ChangesLine line change olds news texts after
