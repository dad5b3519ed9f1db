-- Machines of a host that are saved as bytes.
use Rattle.std.proofs.Common.{◌≡◌, ℕ, Bool, false, None, Option, List, length, map, refl, sym, ap, subst}
use Rattle.bpf_shared.specs.Shape.{Shape}
use Rattle.bpf_plain.specs.PlainStore.{Contents}
use Rattle.bpf_loader.specs.Loaded.{Loaded}
use Rattle.bpf_cpu.specs.Task.{Task}
use Rattle.std.specs.List.{AllByRecursion}
use Rattle.bpf_machine.specs.Listings.{Listing}
use Rattle.bpf_machine.specs.Machine.{MachineState}
use Rattle.bpf_machine.specs.Parts.{CanStand, chosen, made_of}
use Rattle.bpf_machine.proofs.ComingFrom.{come_later}
use Rattle.bpf_x86.specs.Machine.{Move, TurnOf, FlushOf}
use Rattle.bpf_buffering.specs.declared.waiting.Stored.{Stored}
use Rattle.bpf_buffering.specs.Ahead.{RunsUnseen}
use Rattle.bpf_buffering.specs.Buffering.{state_with}
use Rattle.bpf_buffering.specs.Search.{BufferedState, MovesTo}
use Rattle.bpf_buffering.specs.Waiting.{event_of}
use Rattle.bpf_explore.specs.Stores.{IsOfShape}
use Rattle.bpf_expand.specs.State.{Host}
use Rattle.bpf_expand.specs.Private.Home.{CountUp}
use Rattle.bpf_expand.proofs.Fitting.{hold, FitInBytes}
use Rattle.bpf_expand.proofs.Lists.{chosen_all}
use Rattle.bpf_buffer_expand.specs.State.{HasNone, HasNoneIn, IsNoState, IsStateOf, LeadsAhead}
use Rattle.bpf_buffer_expand.specs.Private.Home.{IsFit, IsSavedWith}
use Rattle.bpf_buffer_expand.specs.Private.Room.{host_with, AreFrom, IsRead}
use Rattle.bpf_buffer_expand.specs.Private.Fits.{FitAll}
use Rattle.bpf_buffer_expand.specs.Saved.{AreSavable}
use Rattle.bpf_buffer_expand.proofs.Alike.{from_all}

-- budgets that are passed over are no part of a state
abbrev pub host_as : Bool → Shape → List Loaded → List Task → Host
host_as patient h programs first = record { shape = h; programs = programs; jobs = first; patient = patient }

other_host : (p q : Bool) (h : Shape) (programs : List Loaded) (first : List Task) (m : BufferedState) (bytes : List ℕ) → IsStateOf (host_as p h
    programs first) m bytes → IsStateOf (host_as q h programs first) m bytes
other_host p q h programs first m bytes is = record {
  of = record {
    shape = is.of.shape;
    programs = is.of.programs;
    jobs = is.of.jobs;
    held = is.of.held;
    lists = is.of.lists;
    stands = is.of.stands;
  };
  waiting = is.waiting;
  buffers = is.buffers;
  fit = is.fit;
  store = is.store;
  stored = is.stored;
  saved = is.saved;
}

pub no_state_as : (patient : Bool) (h : Shape) (programs : List Loaded) (first : List Task) (bytes : List ℕ) → IsNoState (host_with h programs first) bytes
    → IsNoState (host_as patient h programs first) bytes
no_state_as patient h programs first bytes none m is = none m (other_host patient false h programs first m bytes is)

-- what is read is the state of its parts
pub state_read : (patient : Bool) (h : Shape) (programs : List Loaded) (first jobs : List Task) (waiting : List (List Stored)) (store : Contents)
    (bytes : List ℕ) → IsRead h programs first jobs waiting store bytes → FitInBytes jobs
    → IsStateOf (host_as patient h programs first) (state_with store programs jobs waiting) bytes
state_read patient h programs first jobs waiting store bytes is fit =
    let m : MachineState = record { store = store; programs = programs; jobs = jobs; lists = None } in
    record {
      of = record {
        shape = is.are.shape;
        programs = refl;
        jobs = is.are.later;
        held = hold m is.are.saved.0 is.stands is.are.saved.1 fit;
        lists = refl;
        stands = is.stands;
      };
      waiting = waiting;
      buffers = refl;
      fit = is.fit;
      store = is.are.saved.0;
      stored = is.are.saved.1;
      saved = is.are.saved.2;
    }

-- a machine that fits is the state of what it is saved as
pub state_fit : (patient : Bool) (h : Shape) (first : List Task) (m : BufferedState) (waiting : List (List Stored)) (bytes : List ℕ)
    → IsFit (host_with h m.machine.programs first) m waiting → m.buffers ≡ map (map event_of) waiting → IsOfShape h m.machine.store
    → m.machine.lists ≡ None → IsSavedWith m waiting bytes → IsStateOf (host_as patient h m.machine.programs first) m bytes
state_fit patient h first m waiting bytes fit buffers shape lists saved = record {
  of = record {
    shape = shape;
    programs = refl;
    jobs = fit.later;
    held = hold m.machine saved.0 fit.stands saved.1 fit.fit;
    lists = lists;
    stands = fit.stands;
  };
  waiting = waiting;
  buffers = buffers;
  fit = fit.buffers;
  store = saved.0;
  stored = saved.1;
  saved = saved.2;
}

abbrev pub parts_of : BufferedState → List Task → Option (List Listing) → MachineState
parts_of m jobs lists = record { store = m.machine.store; programs = m.machine.programs; jobs = jobs; lists = lists }

-- what is looked at makes it fit
pub fit_of : (h : Shape) (first : List Task) (m : BufferedState) (waiting : List (List Stored)) (numbers : List ℕ) → AreFrom first m.machine.jobs
    → FitInBytes m.machine.jobs → AllByRecursion AreSavable waiting → CountUp numbers (length first)
    → CanStand (made_of m.machine.store m.machine.programs m.machine.jobs numbers) → m.machine.lists ≡ None → length waiting ≡ h.cpus
    → FitAll h m.machine.jobs waiting → IsFit (host_with h m.machine.programs first) m waiting
fit_of h first m waiting numbers from fit savable up stands lists count all = record {
  later = come_later first m.machine.jobs (from_all first m.machine.jobs from) fit;
  fit = fit;
  stands = subst CanStand (sym none) (subst (λ (l : List Task). CanStand (parts_of m l None)) chosen_are stands);
  buffers = record { count = count; savable = savable; each = all };
}
  where
    chosen_are : chosen m.machine.jobs numbers ≡ m.machine.jobs
    chosen_are = chosen_all m.machine.jobs numbers (subst (λ (n : ℕ). CountUp numbers n) (sym from.count) up)

    none : m.machine ≡ parts_of m m.machine.jobs None
    none = ap (λ (l : Option (List Listing)). parts_of m m.machine.jobs l) lists

-- ---- moves
pub turn_leads : (old mid new : BufferedState) (c n : ℕ) → MovesTo old (TurnOf c) mid → RunsUnseen mid c n new → LeadsAhead old (TurnOf c) c n new
turn_leads old mid new c n moves unseen x shown =
    let r = moves x shown in
    let u = unseen r.0 r.2 in
    (r.0, u.0, r.1, u.1, u.2)

pub flush_leads : (old new : BufferedState) (c : ℕ) → MovesTo old (FlushOf c) new → LeadsAhead old (FlushOf c) c 0 new
flush_leads old new c moves x shown =
    let r = moves x shown in
    (r.0, r.0, r.1, refl, r.2)

-- ---- what there is to move
pub none_in : (h : Host) (m : BufferedState) (bytes : List ℕ) (move : Move) → IsStateOf h m bytes → HasNone m move → HasNoneIn h bytes move
none_in h m bytes move is none = (m, is, none)
