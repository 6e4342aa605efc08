-- FRAGMENTS of a datagram that one of the two machines sent, put together. (RFC 791, 3.2, and RFC 8200, 4.5: those of one datagram have
-- both hosts and the identification in common, and each says where its octets go. That they are put together as they come one after
-- the other in that order, and those of one datagram at a time, is this project's profile.)
use Rattle.std.specs.Prelude.{ℕ, ◌+◌, ◌==◌, ◌&&◌, not, nat_lt, bytes_eq, Bool, true, false, List, ◌++◌, take, length, Option, Some, None, if◌then◌else◌}
use Rattle.fax_capture.specs.pcap.Datagrams.{DatagramValue, FragmentValue}
use Rattle.fax_capture.specs.declared.address.Role.{Role}
use Rattle.fax_capture.specs.declared.address.Role.TheVariants.{FromCaller, FromCalled, CallerInFragments, CalledInFragments}

-- What came of a datagram so far: the hosts between which it goes, the number of its fragments, from whom it is, how many octets of
-- data it has, and the first ones.
pub record UnfinishedValue : Type 0 where
  pub source : List ℕ
  pub destination : List ℕ
  pub number : ℕ
  pub role : Role
  pub length : ℕ
  pub octets : List ℕ

-- a datagram that was put together: from whom it is, and its data
pub record WholeValue : Type 0 where
  pub role : Role
  pub octets : List ℕ

abbrev pub begun_as : Role → DatagramValue → Option ℕ → Option UnfinishedValue
begun_as role datagram None = None
begun_as role datagram (Some number) = Some (record {
  source = datagram.source.host;
  destination = datagram.destination.host;
  number = number;
  role = role;
  length = datagram.length;
  octets = datagram.octets;
})

-- What is under way after a datagram: the first of the fragments of one takes the place of what was.
abbrev pub under_way_with : Option UnfinishedValue → Role → DatagramValue → Option UnfinishedValue
under_way_with old CallerInFragments datagram = begun_as FromCaller datagram datagram.fragments
under_way_with old CalledInFragments datagram = begun_as FromCalled datagram datagram.fragments
under_way_with old role datagram = old

-- A fragment goes on where those before it end. No datagram of UDP has more than 65,527 octets of data.
abbrev pub goes_on : UnfinishedValue → FragmentValue → Bool
goes_on unfinished fragment = bytes_eq unfinished.source fragment.source
    && (bytes_eq unfinished.destination fragment.destination
    && ((unfinished.number == fragment.number) && ((length unfinished.octets == fragment.place)
    && not (nat_lt 65527 (fragment.place + length fragment.octets)))))

-- with its last fragment a datagram is whole, where it has all octets that its header counts
abbrev pub whole_of : UnfinishedValue → Option WholeValue
whole_of unfinished =
    if nat_lt (length unfinished.octets) unfinished.length then None
    else Some (record { role = unfinished.role; octets = take unfinished.length unfinished.octets })

abbrev pub grown : UnfinishedValue → FragmentValue → UnfinishedValue
grown unfinished fragment = record unfinished { octets = unfinished.octets ++ fragment.octets }

-- what is under way after a fragment, and the datagram that is put together with it, where it is the last one
abbrev pub after_fragment : UnfinishedValue → Bool → Option UnfinishedValue × Option WholeValue
after_fragment unfinished false = (Some unfinished, None)
after_fragment unfinished true = (None, whole_of unfinished)

abbrev pub put_together : Option UnfinishedValue
    → FragmentValue → Option UnfinishedValue × Option WholeValue
put_together None fragment = (None, None)
put_together (Some unfinished) fragment = if goes_on unfinished fragment
    then after_fragment (grown unfinished fragment) fragment.is_last else (Some unfinished, None)
