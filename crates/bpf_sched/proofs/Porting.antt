-- What a CPU's calls over its port are to the events that the port has seen of it.
use Rattle.std.proofs.Common.{◌≡◌, ℕ, List, [], ◌∷◌, Some, ◌++◌, map, ap, sym, subst, ◌∙◌}
use Rattle.bpf_shared.specs.declared.events.Event.{Event}
use Rattle.std.proofs.lemmas.List.{append-nil, append_assoc}
use Rattle.bpf_shared.specs.declared.events.Entry.{Entry}
use Rattle.bpf_shared.specs.Chain.{Chain}
use Rattle.bpf_shared.specs.History.{events_of}
use Rattle.bpf_shared.proofs.Chains.{events_of-append}
use Rattle.bpf_loader.specs.Loaded.{Loaded}
use Rattle.hop_words.specs.Inside.{Shown}
use Rattle.hop_map.specs.Port.{Port, IsPortOf, own_events}
use Rattle.hop_map.specs.Noting.{CallsNote}
use Rattle.hop_map.specs.Lemmas.Notes.{none_note, notes-append}
use Rattle.hop_cpu.specs.Serving.{Serving, serves, IsPortWorn}
use Rattle.hop_cpu.specs.Passing.{ExtendsHistory}
use Rattle.bpf_sched.specs.declared.assignment.Assignment.{Assignment}
use Rattle.bpf_sched.specs.Explained as explained
use Rattle.bpf_sched.specs.Working.{RunsAll, RunsAndLists}
use Rattle.bpf_sched.specs.Worked.{Worked, extends}
use Rattle.bpf_sched.specs.declared.worker.Worker.{Worker}
use Rattle.bpf_sched.specs.Explained.{keys_events}
use Rattle.bpf_sched.proofs.Told.{lists_behind, carried, carried_lists}

-- a value of a gate's store, of which the port's CPU is seen
module _ {G : Type 0} (serving : G → Serving) (t : Shown) (cpu : ℕ) (programs : List Loaded) where
  abbrev pub IsOf : G → Type 0
  IsOf x = ((serving x).table ≡ t) × ((serving x).port.known.cpu ≡ cpu)

  abbrev pub own_of : G → List Event
  own_of x = own_events (serving x).port

  pub moves_on : (x y : G) (es : List Event) → IsOf x → Chain (λ a b log. ExtendsHistory (serving a) (serving b) log) (λ a. serves (serving a)) cpu x y es
      → IsOf y × extends (own_of x) (own_of y) es
  moves_on x y es (table, same) chain =
      let cpu_y : (serving y).port.known.cpu ≡ cpu = chain.passage.cpu ∙ same in (
        (chain.passage.table ∙ table, cpu_y),
        ap (λ (c : ℕ). events_of c (serving y).port.known.seen) cpu_y
            ∙ (ap (events_of cpu) chain.passage.seen
            ∙ (events_of-append cpu (serving x).port.known.seen chain.log
            ∙ (ap (λ (l : List Event). l ++ events_of cpu chain.log) (sym (ap (λ (c : ℕ). events_of c (serving x).port.known.seen) same))
            ∙ ap (λ (l : List Event). own_of x ++ l) chain.own))),
      )

  is_worn : (x : G) → IsOf x → IsPortWorn (serving x) cpu → explained.IsWorn t.about.count (own_of x)
  is_worn x of worn = subst (λ (s : Shown). explained.IsWorn s.about.count (own_of x)) of.0 worn

  over_port : (x y : G) (olds news : List Assignment) (events : List Event) → IsOf x
      → RunsAll (Chain (λ a b log. ExtendsHistory (serving a) (serving b) log) (λ a. serves (serving a)) cpu)
      (λ a. IsPortWorn (serving a) cpu) t.about.shape programs x olds news events y
      → IsOf y × RunsAll extends (explained.IsWorn t.about.count) t.about.shape programs (own_of x) olds news events (own_of y)
  over_port x y olds news events of all =
      carried IsOf own_of (Chain (λ a b log. ExtendsHistory (serving a) (serving b) log) (λ a. serves (serving a)) cpu)
      (λ a. IsPortWorn (serving a) cpu) extends (explained.IsWorn t.about.count)
      moves_on is_worn t.about.shape programs x y olds news events of all

  pub lists_over_port : (x y : G) (olds news : List Assignment) (lists : List (List (List ℕ))) (events : List Event) → IsOf x
      → RunsAndLists (Chain (λ a b log. ExtendsHistory (serving a) (serving b) log) (λ a. serves (serving a)) cpu)
      (λ a. IsPortWorn (serving a) cpu) t.about.shape programs x olds news lists events y
      → IsOf y × RunsAndLists extends (explained.IsWorn t.about.count) t.about.shape programs (own_of x) olds news lists events (own_of y)
  lists_over_port x y olds news lists events of all =
      carried_lists IsOf own_of (Chain (λ a b log. ExtendsHistory (serving a) (serving b) log) (λ a. serves (serving a)) cpu)
      (λ a. IsPortWorn (serving a) cpu) extends (explained.IsWorn t.about.count)
      moves_on is_worn t.about.shape programs x y olds news lists events of all

  -- what the port's CPU noted on a way
  chain_notes : (x z : G) (mine : List Event) → IsOf x → Chain (λ a b log. ExtendsHistory (serving a) (serving b) log) (λ a. serves (serving a)) cpu x z mine
      → CallsNote t.about mine (serving x).port.known (serving z).port.known
  chain_notes x z mine of way =
      subst (λ (es : List Event). CallsNote t.about es (serving x).port.known (serving z).port.known) way.own
      (subst (λ (k : ℕ). CallsNote t.about (events_of k way.log) (serving x).port.known (serving z).port.known) of.1
      (subst (λ (s : Shown). CallsNote s.about (events_of (serving x).port.known.cpu way.log) (serving x).port.known (serving z).port.known)
      of.0 way.passage.noted))

  -- what the port's CPU noted at the calls of all jobs
  noted_by_all : (x y : G) (olds news : List Assignment) (events : List Event) → IsOf x
      → RunsAll (Chain (λ a b log. ExtendsHistory (serving a) (serving b) log) (λ a. serves (serving a)) cpu)
      (λ a. IsPortWorn (serving a) cpu) t.about.shape programs x olds news events y
      → CallsNote t.about events (serving x).port.known (serving y).port.known
  noted_by_all x y [] [] events of (none, same) =
      subst (λ (es : List Event). CallsNote t.about es (serving x).port.known (serving y).port.known) (sym none)
      (subst (λ (z : G). CallsNote t.about [] (serving x).port.known (serving z).port.known) (sym same) (none_note t.about (serving x).port.known))
  noted_by_all x y [] (new ∷ news) events of all = absurd all
  noted_by_all x y (old ∷ olds) [] events of all = absurd all
  noted_by_all x y (old ∷ olds) (new ∷ news) events of (z, mine, rest, is, ran, others) =
      let here = chain_notes x z mine of ran.way in
      subst (λ (es : List Event). CallsNote t.about es (serving x).port.known (serving y).port.known) (sym is)
      (notes-append t.about mine rest (serving x).port.known (serving z).port.known (serving y).port.known here
      (noted_by_all z y olds news rest (moves_on x z mine of ran.way).0 others))

  pub noted_by_lists : (x y : G) (olds news : List Assignment) (lists : List (List (List ℕ))) (events : List Event) → IsOf x
      → RunsAndLists (Chain (λ a b log. ExtendsHistory (serving a) (serving b) log) (λ a. serves (serving a)) cpu)
      (λ a. IsPortWorn (serving a) cpu) t.about.shape programs x olds news lists events y
      → CallsNote t.about events (serving x).port.known (serving y).port.known
  noted_by_lists x y olds news lists events of all =
      let there = (over_port x all.last olds news all.ran of all.runs).0 in
      subst (λ (es : List Event). CallsNote t.about es (serving x).port.known (serving y).port.known) (sym all.cut)
      (notes-append t.about all.ran (keys_events 0 lists) (serving x).port.known (serving all.last).port.known (serving y).port.known
      (noted_by_all x all.last olds news all.ran of all.runs) (chain_notes all.last y (keys_events 0 lists) there all.way))

-- what a port has seen of the history goes on, call by call
module _ {G : Type 0} (serving : G → Serving) (t : Shown) (cpu : ℕ) (programs : List Loaded) where
  abbrev pub GoesOn : G → G → Type 0
  GoesOn x y = (log : List Entry) × ((serving y).port.known.seen ≡ (serving x).port.known.seen ++ log)

  goes : (x y : G) (es : List Event) → Chain (λ a b log. ExtendsHistory (serving a) (serving b) log) (λ a. serves (serving a)) cpu x y es → GoesOn x y
  goes x y es chain = (chain.log, chain.passage.seen)

  goes_both : (x y z : G) → GoesOn x y → GoesOn y z → GoesOn x z
  goes_both x y z a b = (a.0 ++ b.0, b.1 ∙ (ap (λ (l : List Entry). l ++ b.0) a.1 ∙ append_assoc (serving x).port.known.seen a.0 b.0))

  goes_by_all : (x y : G) (olds news : List Assignment) (events : List Event)
      → RunsAll (Chain (λ a b log. ExtendsHistory (serving a) (serving b) log) (λ a. serves (serving a)) cpu)
      (λ a. IsPortWorn (serving a) cpu) t.about.shape programs x olds news events y
      → GoesOn x y
  goes_by_all x y [] [] events (none, same) = ([], ap (λ (z : G). (serving z).port.known.seen) same ∙ sym (append-nil (serving x).port.known.seen))
  goes_by_all x y [] (new ∷ news) events all = absurd all
  goes_by_all x y (old ∷ olds) [] events all = absurd all
  goes_by_all x y (old ∷ olds) (new ∷ news) events (z, mine, rest, is, ran, others) = goes_both x z y (goes x z mine ran.way)
      (goes_by_all z y olds news rest others)

  pub goes_by_lists : (x y : G) (olds news : List Assignment) (lists : List (List (List ℕ))) (events : List Event)
      → RunsAndLists (Chain (λ a b log. ExtendsHistory (serving a) (serving b) log) (λ a. serves (serving a)) cpu)
      (λ a. IsPortWorn (serving a) cpu) t.about.shape programs x olds news lists events y
      → GoesOn x y
  goes_by_lists x y olds news lists events all = goes_both x all.last y (goes_by_all x all.last olds news all.ran all.runs)
      (goes all.last y (keys_events 0 lists) all.way)

-- a worker whose port was after a gate's store has worked
pub worked : {G : Type 0} (x y : G) (serving : G → Serving) (t : Shown) (programs : List Loaded) (w v : Worker) (p q : Port) (events : List Event)
    → w.port ≡ Some p → v.port ≡ Some q → (serving x).table ≡ t → (serving x).port ≡ p → p.known.cpu ≡ w.workload.cpu → q ≡ (serving y).port
    → IsPortOf (serving y).table q
    → RunsAndLists (Chain (λ a b log. ExtendsHistory (serving a) (serving b) log) (λ a. serves (serving a)) w.workload.cpu)
    (λ a. IsPortWorn (serving a) w.workload.cpu) (serving x).table.about.shape
    programs x w.workload.jobs.items v.workload.jobs.items (map (λ list. list.keys) v.workload.lists.items) events y
    → map (λ list. list.shape) v.workload.lists.items ≡ map (λ list. list.shape) w.workload.lists.items
    → Worked t programs w v
worked {G} x y serving t programs w v p q events was is table at cpu out fits all same =
    let c = w.workload.cpu in
    let of : ((serving x).table ≡ t) × ((serving x).port.known.cpu ≡ c) = (table, ap (λ (r : Port). r.known.cpu) at ∙ cpu) in
    let told = lists_over_port serving t c programs x y w.workload.jobs.items v.workload.jobs.items (map (λ list. list.keys) v.workload.lists.items) events of
    (subst (λ (s : Shown). RunsAndLists (Chain (λ a b log. ExtendsHistory (serving a) (serving b) log) (λ a. serves (serving a)) c)
    (λ a. IsPortWorn (serving a) c) s.about.shape programs x w.workload.jobs.items v.workload.jobs.items
    (map (λ list. list.keys) v.workload.lists.items) events y) table all) in
    let ran = subst (λ (r : Port). RunsAndLists extends (explained.IsWorn t.about.count) t.about.shape programs (own_events r)
    w.workload.jobs.items v.workload.jobs.items (map (λ list. list.keys) v.workload.lists.items) events (own_events q)) at
    (subst (λ (r : Port). RunsAndLists extends (explained.IsWorn t.about.count) t.about.shape programs (own_events (serving x).port)
    w.workload.jobs.items v.workload.jobs.items (map (λ list. list.keys) v.workload.lists.items) events (own_events r)) (sym out) told.1) in
    record {
      before = p;
      after = q;
      was = was;
      is = is;
      fits = subst (λ (s : Shown). IsPortOf s q) told.0.0 fits;
      cpu = ap (λ (r : Port). r.known.cpu) out ∙ (told.0.1 ∙ sym cpu);
      events = events;
      more = lists_behind (explained.IsWorn t.about.count) t.about.shape programs (own_events p) (own_events q) w.workload.jobs.items
          v.workload.jobs.items (map (λ list. list.keys) v.workload.lists.items) events ran;
      seen =
          let on = goes_by_lists serving t c programs x y w.workload.jobs.items v.workload.jobs.items (map (λ list. list.keys) v.workload.lists.items) events
          (subst (λ (s : Shown). RunsAndLists (Chain (λ a b log. ExtendsHistory (serving a) (serving b) log) (λ a. serves (serving a)) c)
          (λ a. IsPortWorn (serving a) c) s.about.shape programs x w.workload.jobs.items v.workload.jobs.items
          (map (λ list. list.keys) v.workload.lists.items) events y) table all) in
          (on.0, ap (λ (r : Port). r.known.seen) out ∙ (on.1 ∙ ap (λ (r : Port). r.known.seen ++ on.0) at));
      ran = ran;
      same = same;
      noted = subst (λ (r : Port). CallsNote t.about events r.known q.known) at
          (subst (λ (r : Port). CallsNote t.about events (serving x).port.known r.known) (sym out)
          (noted_by_lists serving t c programs x y w.workload.jobs.items v.workload.jobs.items (map (λ list. list.keys) v.workload.lists.items) events of
          (subst (λ (s : Shown). RunsAndLists (Chain (λ a b log. ExtendsHistory (serving a) (serving b) log) (λ a. serves (serving a)) c)
          (λ a. IsPortWorn (serving a) c) s.about.shape programs x w.workload.jobs.items v.workload.jobs.items
          (map (λ list. list.keys) v.workload.lists.items) events y) table all)));
    }
