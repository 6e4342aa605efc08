-- Legs of lines, and the calls on them.
use Rattle.std.specs.Prelude.{◌==◌, ◌&&◌, Bool, true, false, Option, None, Some}
use Rattle.fax_switch.specs.declared.place.Leg.{Leg}
use Rattle.fax_switch.specs.declared.place.Leg.TheVariants.{Calling, Called}
use Rattle.fax_switch.specs.declared.place.LineCall.{LineCall}
use Rattle.fax_switch.specs.declared.place.Place.{Place}

abbrev pub is_leg : Leg → Leg → Bool
is_leg Calling Calling = true
is_leg Calling Called = false
is_leg Called Calling = false
is_leg Called Called = true

-- one leg of one line, and one call on it
abbrev pub same_leg : Place → Place → Bool
same_leg place other = is_leg place.leg other.leg && place.line == other.line

abbrev pub same_place : Place → Place → Bool
same_place place other = same_leg place other && place.call == other.call

-- a call that comes in is on the calling leg, that of a job on the called leg
abbrev pub calling_place : LineCall → Place
calling_place on = record { leg = Calling; line = on.line; call = on.call }

abbrev pub called_place : LineCall → Place
called_place on = record { leg = Called; line = on.line; call = on.call }

-- a leg is held, as any call or as this one
abbrev pub holds_leg : Option Place → Place → Bool
holds_leg None other = false
holds_leg (Some place) other = same_leg place other

abbrev pub holds : Option Place → Place → Bool
holds None other = false
holds (Some place) other = same_place place other
