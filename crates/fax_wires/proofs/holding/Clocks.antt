-- What a wire that holds back knows of its clock.
use Rattle.std.proofs.Common.{◌≡◌, ℕ, max, Bool, List, [], ◌∷◌, ◌∙◌, ap}
use Rattle.fax_gateway.specs.declared.leg.Leg.{Leg}
use Rattle.fax_gateway.specs.Events.{Ring, FromCalling, FromCalled, Tick, Placed}
use Rattle.fax_gateway.specs.Driving.{Accepts, Entry, FailsToReceive, GoesBy, ReceivesNothing, RefusesDatagram, RefusesRing, RefusesTick, Sends, WireGoes}
use Rattle.fax_wires.specs.holding.Holding.{HoldingValue, IsToldTime, KeepsClock}

-- ---- a clock that neither receives nor sends move

abbrev pub SameOn : Leg → ℕ → ℕ → Type 0
SameOn at old new = new ≡ old

abbrev pub SameBySend : Leg → List ℕ → Bool → ℕ → ℕ → Type 0
SameBySend at octets is_sent old new = new ≡ old

same_by : (entry : Entry) (old new : ℕ) → GoesBy SameOn SameBySend entry old new → new ≡ old
same_by (Accepts (Ring now number)) old new goes = goes
same_by (Accepts (FromCalling octets now decided read)) old new goes = goes
same_by (Accepts (FromCalled octets now decided)) old new goes = goes
same_by (Accepts (Tick now given)) old new goes = goes
same_by (Accepts (Placed now connected)) old new goes = goes
same_by (RefusesRing fault) old new goes = goes
same_by (RefusesDatagram at octets) old new goes = goes
same_by (RefusesTick now) old new goes = goes
same_by (ReceivesNothing at) old new goes = goes
same_by (FailsToReceive at) old new goes = goes
same_by (Sends at octets fails) old new goes = goes

pub same_over : (log : List Entry) (old new : ℕ) → WireGoes SameOn SameBySend log old new → new ≡ old
same_over [] old new goes = goes
same_over (entry ∷ earlier) old new goes = same_by entry goes.0 new goes.2 ∙ same_over earlier old goes.0 goes.1

-- ---- where it was told a moment, and its clock stayed before that and since

pub time_then : (now : ℕ) (old mid new : HoldingValue) → IsToldTime now old mid → KeepsClock mid new → IsToldTime now old new
time_then now old mid new told same = same ∙ told

pub then_time : (now : ℕ) (old mid new : HoldingValue) → KeepsClock old mid → IsToldTime now mid new → IsToldTime now old new
then_time now old mid new same told = told ∙ ap (λ (clock : ℕ). max clock now) same
