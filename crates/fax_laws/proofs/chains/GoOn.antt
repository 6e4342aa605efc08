-- Links go on.
use Rattle.std.proofs.Common.{◌≡◌, ℕ, zero, suc, Bool, true, false, List, [], ◌∷◌, ◌++◌, reverse, slice_get, Option, Some, None, refl, sym, subst, arith, lit<, if◌then◌else◌}
use Rattle.fax_pagestore.specs.Pages.{PageValue, IsPage}
use Rattle.fax_ifp.specs.declared.codes.Indicator.TheVariants.{Cng}
use Rattle.fax_ifp.specs.Codes.{indicator_code}
use Rattle.fax_udptl.specs.Datagrams.{datagram_of}
use Rattle.fax_jobs.specs.Books.{job_of}
use Rattle.fax_jobs.specs.Jobs.{JobValue}
use Rattle.fax_answer.specs.Calls.{new_answering}
use Rattle.fax_answer.specs.Table.{Reading}
use Rattle.fax_call.specs.Replies.{Signals, written}
use Rattle.fax_call.specs.Writings.{Writing}
use Rattle.fax_gateway.specs.Legs.{sent}
use Rattle.fax_gateway.specs.Setups.{Setup}
use Rattle.fax_gateway.specs.Events.{Event, FromCalling, Ring, Tick, Given}
use Rattle.fax_gateway.specs.CallingLegs.{CallingLeg, calling_leg, idle_after, leg_with, rung_leg}
use Rattle.fax_gateway.specs.CalledLegs.{CalledLeg, begun_leg, core_left, leg_ticked}
use Rattle.fax_gateway.specs.BothLegs.{book_of, both_legs, in_tick}
use Rattle.fax_gateway.specs.GoesOn.{GoesOn, TracesGoOn}
use Rattle.fax_gateway.specs.Traces.{IsTrace}
use Rattle.fax_laws.specs.chains.Given.{in_call, octets_given, with_given}
use Rattle.fax_laws.specs.chains.GoOn as links
use Rattle.fax_laws.specs.chains.GoOn.{GoOn, HasCome, LinksBegin, SomeAreLinked}
use Rattle.fax_laws.specs.chains.Links.{ComeFrom, IsLinked, IsNear, octets_heard}
use Rattle.fax_laws.proofs.chains.Given.{none_some, one_more}

pub links_begin : LinksBegin
links_begin setup other writes others = record { is_first = tt; is_second = tt; places = []; near = tt; come = tt }

-- ---- more is given: what was given before stays at its place
still_at : {A : Type 0} (xs : List A) (x y : A) (n : ℕ) → slice_get xs n ≡ Some y → slice_get (xs ++ x ∷ []) n ≡ Some y
still_at [] x y n e = absurd (none_some y e)
still_at (first ∷ xs) x y zero e = e
still_at (first ∷ xs) x y (suc n) e = still_at xs x y n e

come_still : (given : List (List ℕ)) (x : List ℕ) (places : List ℕ) (came : List (List ℕ)) → ComeFrom given places came → ComeFrom (given ++ x ∷ []) places came
come_still given x [] [] c = tt
come_still given x [] (octets ∷ came) c = absurd c
come_still given x (place ∷ places) [] c = absurd c
come_still given x (place ∷ places) (octets ∷ came) c = (still_at given x octets place c.0, come_still given x places came c.1)

come_more : (o : Option (List ℕ)) (given : List (List ℕ)) (places : List ℕ) (came : List (List ℕ)) → ComeFrom (reverse given) places came → ComeFrom (reverse (with_given o given)) places came
come_more None given places came c = c
come_more (Some x) given places came c = subst (λ (xs : List (List ℕ)). ComeFrom xs places came) (sym (one_more given x)) (come_still (reverse given) x places came c)

-- ---- a datagram comes while the call is on
heard_more : (b : Bool) (octets : List ℕ) (heard : List (List ℕ)) → b ≡ false → (if b then heard else octets ∷ heard) ≡ octets ∷ heard
heard_more true octets heard e = cc
heard_more false octets heard e = refl

pub links_go_on : TracesGoOn → links.LinksGoOn
links_go_on law setup other writes others first second link =
    let given : List (List ℕ) = octets_given setup writes first in
    let heard : List (List ℕ) = octets_heard other second in
    let one : GoesOn setup writes first = law setup writes first link.is_first in
    let two : GoesOn other others second = law other others second link.is_second in
    record {
      comes = λ place octets at found near on.
          let r = two.from_calling octets at in (
            r.0,
            r.1,
            record {
              is_first = link.is_first;
              is_second = r.2;
              places = place ∷ link.places;
              near = (near, link.near);
              come = subst (ComeFrom (reverse given) (place ∷ link.places)) (sym (heard_more (idle_after (calling_leg other second)) octets heard on)) (found, link.come);
            },
          );
      second_ticks = λ at.
          let r = two.tick at in
          (r.0, record { is_first = link.is_first; is_second = r.1; places = link.places; near = link.near; come = link.come });
      first_ticks = λ at none.
          let r = one.tick at in (
            r.0,
            record {
              is_first = r.1;
              is_second = link.is_second;
              places = link.places;
              near = link.near;
              come =
                  subst (λ (b : Bool). ComeFrom (reverse (with_given r.0.on_called (in_call b (book_of (in_tick setup writes first at)).sending given))) link.places heard) (sym none)
                  (come_more r.0.on_called given link.places heard link.come);
            },
          );
    }

-- ---- A LINK OVER WHICH A DATAGRAM CAME: the first is restored with a page, and a tick begins the call of its job
restored : (page : PageValue) → IsPage page → Setup
restored page is = record {
  redundancy = 3;
  few = omega arith;
  pause = 40;
  is_pause = (omega arith, omega arith);
  asks = false;
  restored = record { number = 0; confirmed = record { page = page; closes = true } ∷ [] } ∷ [];
  are_pages = (is, tt);
}

usual : Setup
usual = record { redundancy = 3; few = omega arith; pause = 40; is_pause = (omega arith, omega arith); asks = false; restored = []; are_pages = tt }

job_with : PageValue → JobValue
job_with page = job_of 0 page

leg_begun : (writes : Writing) (page : PageValue) → IsPage page → CalledLeg
leg_begun writes page is = leg_ticked writes 0 (begun_leg (job_with page) (core_left (restored page is) writes None) 0)

-- the tick gives CNG
tone : (page : PageValue) → IsPage page → List ℕ
tone page is = sent (restored page is) [] (written (Signals (indicator_code Cng)))

gives : (page : PageValue) → IsPage page → Given
gives page is = record { on_calling = None; on_called = Some (tone page is); report = None }

begins : (page : PageValue) → IsPage page → List Event
begins page is = Tick 0 (gives page is) ∷ []

begins_so : (writes : Writing) (page : PageValue) (is : IsPage page) → IsTrace (restored page is) writes (begins page is)
unfolding restored tone gives begins
begins_so writes page is = (refl, tt)

leg_is : (writes : Writing) (page : PageValue) (is : IsPage page) → (both_legs (restored page is) writes (begins page is)).leg ≡ Some (leg_begun writes page is)
unfolding restored begins job_with leg_begun
leg_is writes page is = refl

job_is : (writes : Writing) (page : PageValue) (is : IsPage page) → (leg_begun writes page is).job.pages ≡ page ∷ []
unfolding restored job_with leg_begun
job_is writes page is = refl

given_is : (writes : Writing) (page : PageValue) (is : IsPage page) → slice_get (reverse (octets_given (restored page is) writes (begins page is))) 0 ≡ Some (tone page is)
unfolding restored gives begins
given_is writes page is = refl

-- the second is rung
rung : List Event
rung = Ring 0 0 ∷ []

rung_so : (others : Writing) → IsTrace usual others rung
unfolding usual rung
rung_so others = ((refl, lit< tt, refl), tt)

is_on : idle_after (calling_leg usual rung) ≡ false
unfolding usual rung
is_on = refl

-- and hears it
call_after : (octets : List ℕ) → Reading → CallingLeg
call_after octets read = leg_with (rung_leg (new_answering 40) 0 0) 0 read (datagram_of octets)

call_is : (octets : List ℕ) (decided : Bool) (read : Reading) → calling_leg usual (FromCalling octets 0 decided read ∷ rung) ≡ Some (call_after octets read)
unfolding usual rung call_after
call_is octets decided read = refl

heard_is : (octets : List ℕ) (decided : Bool) (read : Reading) → octets_heard usual (FromCalling octets 0 decided read ∷ rung) ≡ octets ∷ []
unfolding usual rung
heard_is octets decided read = refl

is_rung : (writes others : Writing) (page : PageValue) (is : IsPage page) → IsLinked (restored page is) usual writes others (begins page is) rung
unfolding rung
is_rung writes others page is = record { is_first = begins_so writes page is; is_second = rung_so others; places = []; near = tt; come = tt }

has_come : (writes others : Writing) (page : PageValue) (is : IsPage page)
    → ((decided : Bool) × (read : Reading) × IsLinked (restored page is) usual writes others (begins page is) (FromCalling (tone page is) 0 decided read ∷ rung)) → HasCome writes others page
has_come writes others page is r = record {
  setup = restored page is;
  other = usual;
  first = begins page is;
  second = FromCalling (tone page is) 0 r.0 r.1 ∷ rung;
  link = r.2;
  leg = leg_begun writes page is;
  is_leg = leg_is writes page is;
  is_job = job_is writes page is;
  l = call_after (tone page is) r.1;
  is_call = call_is (tone page is) r.0 r.1;
  octets = tone page is;
  came = heard_is (tone page is) r.0 r.1;
}

comes_first : (writes others : Writing) (page : PageValue) (is : IsPage page) (link : IsLinked (restored page is) usual writes others (begins page is) rung) → IsNear link.places 0
    → GoOn (restored page is) usual writes others (begins page is) rung link.places → HasCome writes others page
comes_first writes others page is link near go = has_come writes others page is (go.comes 0 (tone page is) 0 (given_is writes page is) near is_on)

pub some_are_linked : TracesGoOn → SomeAreLinked
unfolding is_rung
some_are_linked law writes others page is =
    let link : IsLinked (restored page is) usual writes others (begins page is) rung = is_rung writes others page is in
    comes_first writes others page is link tt (links_go_on law (restored page is) usual writes others (begins page is) rung link)
