-- The run in which pairs are put into their maps (our own choice).
use Rattle.std.specs.Prelude.{List, [], ◌∷◌, ◌++◌, map}
use Rattle.bpf_shared.specs.declared.events.Event.{Event}
use Rattle.bpf_shared.specs.declared.events.Event.TheVariants.{Begin, End, Update}
use Rattle.bpf_shared.specs.declared.events.Entry.{Entry}
use Rattle.bpf_shared.specs.declared.events.MapAnswer.TheVariants.{Done}
use Rattle.bpf_shared.specs.History.{entry}
use Rattle.bpf_pairs.specs.Pairs.{Pair}

-- an update with flags 0, which is done
abbrev pub put_event : Pair → Event
put_event p = Update p.map p.key p.value 0 Done

-- one for each pair, in their order
abbrev pub put_events : List Pair → List Event
put_events ps = map put_event ps

-- a run of these updates; where there are none there is no run
abbrev pub run_events : List Pair → List Event
run_events [] = []
run_events (p ∷ ps) = Begin ∷ put_events (p ∷ ps) ++ End ∷ []

-- THE FIRST HISTORY of a store whose maps have pairs: the run is one of CPU 0
abbrev pub first_history : List Pair → List Entry
first_history ps = map (entry 0) (run_events ps)
