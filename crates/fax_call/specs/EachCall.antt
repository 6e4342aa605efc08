-- What led to a caller: its contracts are told over each call that did.
use Rattle.std.specs.Prelude.{List}
use Rattle.fax_ifp.specs.Elements.{Slot}
use Rattle.fax_jobs.specs.Jobs.{JobValue}
use Rattle.fax_pagestore.specs.Writers.{WriterValue}
use Rattle.fax_call.specs.declared.procedure.Procedure.{Procedure}
use Rattle.fax_call.specs.Writings.{Writing}
use Rattle.fax_call.specs.Calls.{CallerCore}
use Rattle.fax_call.specs.Following.{Follows}
use Rattle.fax_call.specs.Reached.{IsReached, Rep}

-- this is so of each writing, job, list of slots, the newest first, and core that led to it
abbrev pub EachCall : Rep → (Writing → JobValue → List Slot → CallerCore → Type 0) → Type 0
EachCall kept IsSo = (writes : Writing) (job : JobValue) (heard : List Slot) (core : CallerCore)
    → IsReached writes job heard core kept → IsSo writes job heard core

-- this is so of each writing, job, core and writer of a page that this procedure follows
abbrev pub EachCore : Procedure → (Writing → JobValue → CallerCore → WriterValue → Type 0) → Type 0
EachCore procedure IsSo =
    (writes : Writing) (job : JobValue) (core : CallerCore) (writer : WriterValue)
    → Follows writes job core writer procedure → IsSo writes job core writer
