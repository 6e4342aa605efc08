-- A whole run of a server (this project's profile).
use Rattle.std.specs.Prelude.{◌≡◌, ℕ, Bool, false, List, length}
use Rattle.fax_line.specs.Operations.{AreBegun, AreNew, AreRising, LinesWent}
use Rattle.fax_line.specs.StoredRuns.{RanWithout}
use Rattle.fax_line.specs.Places.{PlaceValue}
use Rattle.fax_line.specs.Runs.{AreServed, DoneOrder, latest, none_waits, operations_of}
use Rattle.fax_runs.specs.Desking.{WordsAreDone}

-- So many lines were served, each by itself: nothing had come to them, none was restored with a page where there is no spool, and
-- there is a list of the orders that were done, with moments that never go back, through which each line went its own part, with a turn in
-- each one of its slot, but while it waited for what was to be stored of the one before: what lines were asked is what words ordered.
-- Where there is no spool, what a turn of a slot gave went out after it, before anything else was done. What came over the wires and what
-- was said may be anything.
pub record ServedAlone (count : ℕ) (has_spool : Bool) : Type 0 where
  pub begun : List PlaceValue
  pub left : List PlaceValue
  pub first : ℕ
  pub done : List DoneOrder
  pub as_many : length begun ≡ count
  pub restored : AreBegun begun
  pub new : has_spool ≡ false → AreNew begun
  pub went : LinesWent (operations_of done) begun left
  pub served : AreServed first done none_waits
  pub rising : AreRising (operations_of done) (latest done)
  pub words : WordsAreDone done
  pub out : has_spool ≡ false → RanWithout done begun left
