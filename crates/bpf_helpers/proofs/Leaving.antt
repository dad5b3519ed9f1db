-- What a call leaves that is a fault, and one where there is no map and no array.
use Rattle.std.proofs.Common.{◌≡◌, ℕ, List, [], Option, Some, None, Result, Ok, Err, inl, inr, sym, ◌∙◌}
use Rattle.bpf_mem.specs.declared.memory.PrivateMemory.{PrivateMemory}
use Rattle.bpf_shared.specs.declared.events.Span.{Span}
use Rattle.bpf_shared.specs.declared.events.Event.{Event}
use Rattle.bpf_shared.specs.declared.shapes.ArrayShape.{ArrayShape}
use Rattle.bpf_shared.specs.declared.shapes.MapShape.{MapShape}
use Rattle.bpf_shared.specs.Shape.{Shape, without_arrays}
use Rattle.bpf_helpers.specs.declared.fault.HelperFault.{HelperFault}
use Rattle.bpf_helpers.specs.Calls.{TakesAnswer, LooksUp, UpdatesMap, DeletesKey, CallsMap, StopsAtKey, LooksUpIndex, UpdatesIndex}
use Rattle.bpf_helpers.specs.Calls.{DeletesIndex, CallsArray, CallsHelper}

-- a result is a number or a fault
not_both : (result : Result ℕ HelperFault) (x : ℕ) (fault : HelperFault) → result ≡ Err fault → result ≡ Ok x → ⊥
not_both result x fault e f = let no : Ok x ≡ Err fault = sym f ∙ e in cc

module _ (held after : List Span) (result : Result ℕ HelperFault) (fault : HelperFault) (e : result ≡ Err fault) where
  answer_holds : (answer : Option Span) → TakesAnswer answer held result after → after ≡ held
  answer_holds None row = row.1
  answer_holds (Some p) (inl full) = full.2
  answer_holds (Some p) (inr row) = absurd (not_both result p.at fault e row.1)

  module _ (shape : Shape) (memory : PrivateMemory) (registers : List ℕ) (m : ℕ) (h : MapShape) (events : List Event) where
    look_up_holds : LooksUp shape memory registers held m h events result after → after ≡ held
    look_up_holds (inl out) = out.1.2
    look_up_holds (inr (key, first, answer, reads, is, row)) = answer_holds answer row

    update_holds : UpdatesMap shape memory registers held m h events result after → after ≡ held
    update_holds (inl out) = out.1.2
    update_holds (inr row) = row.9

    delete_holds : DeletesKey shape memory registers held m h events result after → after ≡ held
    delete_holds (inl out) = out.1.2
    delete_holds (inr row) = row.6

    map_holds : (n : ℕ) → CallsMap shape memory registers held m h n events result after → after ≡ held
    map_holds n (inl row) = look_up_holds row.1
    map_holds n (inr (inl row)) = update_holds row.1
    map_holds n (inr (inr row)) = delete_holds row.1

-- a call on an array leaves what the run holds, whatever its result
module _ (shape : Shape) (memory : PrivateMemory) (registers : List ℕ) (held after : List Span) (events : List Event)
    (result : Result ℕ HelperFault) (cpu a : ℕ) (g : ArrayShape) where
  stop_holds : StopsAtKey shape memory registers held events result after → after ≡ held
  stop_holds (inl out) = out.1.2
  stop_holds (inr out) = out.1.2

  index_looked_up : LooksUpIndex shape memory registers held cpu a g events result after → after ≡ held
  index_looked_up (inl out) = stop_holds out
  index_looked_up (inr row) = row.3

  index_updated : UpdatesIndex shape memory registers held cpu a g events result after → after ≡ held
  index_updated (inl out) = out.1.2
  index_updated (inr (inl out)) = out.2.2
  index_updated (inr (inr row)) = row.7

  index_deleted : DeletesIndex shape memory registers held events result after → after ≡ held
  index_deleted (inl out) = stop_holds out
  index_deleted (inr row) = row.4

  pub array_holds : (n : ℕ) → CallsArray shape memory registers held cpu a g n events result after → after ≡ held
  array_holds n (inl row) = index_looked_up row.1
  array_holds n (inr (inl row)) = index_updated row.1
  array_holds n (inr (inr row)) = index_deleted row.1

-- where a call is a fault, the run holds what it held
pub fault_holds : (shape : Shape) (n cpu : ℕ) (registers : List ℕ) (memory : PrivateMemory) (held after : List Span) (events : List Event)
    (result : Result ℕ HelperFault) (fault : HelperFault) → result ≡ Err fault → CallsHelper shape n cpu registers memory held events result
    after → after ≡ held
fault_holds shape n cpu registers memory held after events result fault e (inl named) = named.3
fault_holds shape n cpu registers memory held after events result fault e (inr (inl none)) = none.3.2
fault_holds shape n cpu registers memory held after events result fault e (inr (inr (inl (m, h, at, row)))) = map_holds held after result
    fault e shape memory registers m h events n row
fault_holds shape n cpu registers memory held after events result fault e (inr (inr (inr (a, g, at, other, row)))) = array_holds shape
    memory registers held after events result cpu a g n row

-- where there is no map and no array, a call asks nothing, and the run holds what it held
pub no_map_call : (cpus number cpu : ℕ) (registers : List ℕ) (memory : PrivateMemory) (held after : List Span) (events : List Event)
    (result : Result ℕ HelperFault) → CallsHelper (without_arrays cpus []) number cpu registers memory held events result after →
    (events ≡ []) × (after ≡ held)
no_map_call cpus number cpu registers memory held after events result (inl named) = (named.1, named.3)
no_map_call cpus number cpu registers memory held after events result (inr (inl none)) = (none.3.0, none.3.2)
no_map_call cpus number cpu registers memory held after events result (inr (inr (inl (m, h, at, rest)))) = let none : None ≡ Some h = at.1 in absurd cc
no_map_call cpus number cpu registers memory held after events result (inr (inr (inr (a, g, at, other, rest)))) = let none : None ≡ Some g = at.1 in absurd cc
