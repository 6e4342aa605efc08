-- Why a run over streams ended before its end (this project's profile).
use Rattle.std.specs.Prelude.{◌≡◌, ℕ, ◌<◌, ◌≤◌, Bool, true}
use Rattle.fax_command.specs.declared.stream.TheConstants.{MOST_OCTETS, MOST_READS}
use Rattle.fax_command.specs.declared.stream_fault.StreamFault.{StreamFault}
use Rattle.fax_command.specs.declared.stream_fault.StreamFault.TheVariants.{Unread, Unwritten, TooLong, TooManyReads}

-- What holds of a source and a sink where this is the fault: a read of the source failed, or a write of the sink; or the
-- source has given more octets than an input may have, or took as many reads as an input may take.
abbrev pub IsFaultOf : (unread unwritten : Bool) → (given reads : ℕ) → StreamFault → Type 0
IsFaultOf unread unwritten given reads (Unread error) = unread ≡ true
IsFaultOf unread unwritten given reads (Unwritten error) = unwritten ≡ true
IsFaultOf unread unwritten given reads TooLong = MOST_OCTETS < given
IsFaultOf unread unwritten given reads TooManyReads = MOST_READS ≤ reads
