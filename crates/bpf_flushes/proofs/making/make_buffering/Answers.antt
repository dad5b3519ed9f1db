use Rattle.std.proofs.Common.{ℕ, List, map, sym, ap, subst}
use Rattle.bpf_shared.specs.declared.events.Event.{Event}
use Rattle.bpf_shared.specs.Chain.{Chain}
use Rattle.bpf_plain.specs.PlainStore.{Contents, Passes, StandsFor, has_cpu}
use Rattle.bpf_pairs.specs.declared.pairs.Pair.{Pair as Given}
use Rattle.bpf_pairs.specs.Pairs.{pair_of}
use Rattle.bpf_pairs.specs.Putting.{run_events}
use Rattle.bpf_pairs.specs.Filled.{filled}
use Rattle.bpf_pairs.proofs.Filling.{filled_sound}
use Rattle.bpf_machine.specs.Listings.{listing_at}
use Rattle.bpf_x86.specs.Machine.{none_waits}
use Rattle.bpf_x86.proofs.Alike.{same_functions}
use Rattle.bpf_buffering.specs.Search.{buffer_at}
use Rattle.bpf_jobs.proofs.Filling.{shows_filled}
use Rattle.bpf_flushes.proofs.making.make_buffering.Goals as goal

abbrev chained : Contents → Contents → List Event → Type 0
chained x y events = Chain Passes has_cpu 0 x y events

pub returns : goal.returns
returns c =
    let s = c.args.setup in
    let m = c.in_ok-machine.machine in
    let P : Contents → Type 0 = λ store. StandsFor store (filled s.shape (map pair_of s.pairs.items)) in
    record {
      world = record {
        store = subst P (sym c.in_ok-machine.ensures.store)
            (shows_filled s.shape (map pair_of s.pairs.items) c.in_ok-store.store c.put_pairs.new.shared c.cpus.ensures.in_range
            c.requires.pairs c.in_ok-store.ensures (subst (chained c.in_ok-store.store c.put_pairs.new.shared)
            (ap (λ (l : List Given). run_events (map pair_of l)) c.deref.ensures.value) (c.put_pairs.ensures.put c.if-not-put_pairs.false)));
        sound = filled_sound s.shape (map pair_of s.pairs.items) c.cpus.ensures.in_range c.requires.pairs;
        programs = sym c.in_ok-machine.ensures.programs;
        jobs = sym c.in_ok-machine.ensures.jobs;
        lists = ap listing_at (sym c.in_ok-machine.ensures.lists);
      };
      buffers = same_functions none_waits (buffer_at m.buffers) (λ d. sym (c.in_ok-machine.ensures.empty d));
    }
