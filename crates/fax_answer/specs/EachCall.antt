-- What led to an answerer: its contracts are told over each call that did.
use Rattle.std.specs.Prelude.{List}
use Rattle.fax_ifp.specs.Elements.{Slot}
use Rattle.fax_answer.specs.Calls.{AnswererCore}
use Rattle.fax_answer.specs.Reached.{IsReached, Rep, Stands}

-- this is so of each list of slots, the newest first, and core that led to it
abbrev pub EachCall : Rep → (List Slot → AnswererCore → Type 0) → Type 0
EachCall kept IsSo = (heard : List Slot) (core : AnswererCore)
    → IsReached heard core kept → IsSo heard core

-- this is so of each core that it stands for
abbrev pub EachCore : Rep → (AnswererCore → Type 0) → Type 0
EachCore kept IsSo = (core : AnswererCore) → Stands core kept → IsSo core
