use Rattle.std.proofs.Common.{◌≡◌, Bool, List, true, false, map, sym, ap, subst, ◌∙◌}
use Rattle.bpf_shared.specs.declared.events.Event.{Event}
use Rattle.bpf_shared.specs.Chain.{Chain}
use Rattle.bpf_plain.specs.PlainStore.{Contents, Passes, StandsFor, has_cpu}
use Rattle.bpf_pairs.specs.declared.pairs.Pair.{Pair as Given}
use Rattle.bpf_pairs.specs.Pairs.{pair_of}
use Rattle.bpf_pairs.specs.Putting.{run_events}
use Rattle.bpf_pairs.specs.Filled.{filled}
use Rattle.bpf_pairs.proofs.Filling.{filled_sound}
use Rattle.bpf_machine.specs.Listings.{first_lists}
use Rattle.bpf_jobs.proofs.Filling.{shows_filled}
use Rattle.bpf_jobs.proofs.rounds.make_asked.Goals as goal

abbrev chained : Contents → Contents → List Event → Type 0
chained x y events = Chain Passes has_cpu 0 x y events

pub returns-in-Ok-with_keys : goal.returns-in-Ok-with_keys
returns-in-Ok-with_keys c =
    let s = c.args.setup in
    let P : Contents → Type 0 = λ store. StandsFor store (filled s.shape (map pair_of s.pairs.items)) in
    let asked : true ≡ c.args.keys = cc in
    record {
      store = subst P (sym c.in-Ok-with_keys.ensures.store)
          (shows_filled s.shape (map pair_of s.pairs.items) c.in-Ok.store c.put_pairs.new.shared c.cpus.ensures.in_range c.requires.pairs
          c.in-Ok.ensures.made (subst (chained c.in-Ok.store c.put_pairs.new.shared)
          (ap (λ (l : List Given). run_events (map pair_of l)) c.deref.ensures.value) (c.put_pairs.ensures.put c.if-not-put_pairs.false)));
      sound = filled_sound s.shape (map pair_of s.pairs.items) c.cpus.ensures.in_range c.requires.pairs;
      programs = sym c.in-Ok-with_keys.ensures.programs;
      jobs = sym c.in-Ok-with_keys.ensures.jobs;
      lists = ap (λ (b : Bool). first_lists b) (sym asked) ∙ sym c.in-Ok-with_keys.ensures.lists;
    }

pub returns-in-Ok-new : goal.returns-in-Ok-new
returns-in-Ok-new c =
    let s = c.args.setup in
    let P : Contents → Type 0 = λ store. StandsFor store (filled s.shape (map pair_of s.pairs.items)) in
    let asked : false ≡ c.args.keys = cc in
    record {
      store = subst P (sym c.in-Ok-new.ensures.store)
          (shows_filled s.shape (map pair_of s.pairs.items) c.in-Ok.store c.put_pairs.new.shared c.cpus.ensures.in_range c.requires.pairs
          c.in-Ok.ensures.made (subst (chained c.in-Ok.store c.put_pairs.new.shared)
          (ap (λ (l : List Given). run_events (map pair_of l)) c.deref.ensures.value) (c.put_pairs.ensures.put c.if-not-put_pairs.false)));
      sound = filled_sound s.shape (map pair_of s.pairs.items) c.cpus.ensures.in_range c.requires.pairs;
      programs = sym c.in-Ok-new.ensures.programs;
      jobs = sym c.in-Ok-new.ensures.jobs;
      lists = ap (λ (b : Bool). first_lists b) (sym asked) ∙ sym c.in-Ok-new.ensures.lists;
    }
