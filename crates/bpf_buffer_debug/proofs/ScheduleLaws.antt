-- What the words after `steps` spell, and which CPUs they name.
use Rattle.std.proofs.Common.{◌≡◌, ℕ, zero, suc, ◌<◌, Bool, true, false, ◌&&◌, List, [], ◌∷◌, length, map, Option, Some, None, refl, sym}
use Rattle.std.proofs.Common.{ap, ◌∙◌, arith, if◌then◌else◌}
use Rattle.std.specs.Prelude.{Any, nat_lt, option_map, option_and_then}
use Rattle.std.specs.List.{list_all}
use Rattle.std.proofs.lemmas.Bool.{and_parts, ltb-true}
use Rattle.bpf_schedule.specs.Moves.{SpellMoves, SpellNoMoves, moves_in}
use Rattle.bpf_debug.specs.Command as plain
use Rattle.bpf_debug.specs.Command.{Steps, is_short, read_all, steps_of}
use Rattle.bpf_buffer_debug.specs.Command.{Plain, schedule_in}
use Rattle.bpf_buffer_debug.specs.Moves.{cpu_of}
use Rattle.bpf_debug.specs.Session as plain_session
use Rattle.bpf_buffer_debug.specs.Session.{are_cpus, turns_of}

-- ---- words
module _ (f : List ℕ → Option (ℕ × ℕ)) where
  all_read : (ws : List (List ℕ)) (rs : List (ℕ × ℕ)) → map f ws ≡ map (λ r. Some r) rs → read_all f ws ≡ Some rs
  all_read [] [] e = refl
  all_read [] (r ∷ rs) e = absurd cc
  all_read (w ∷ ws) [] e = absurd cc
  all_read (w ∷ ws) (r ∷ rs) e =
      let one : f w ≡ Some r = cc in
      let rest : map f ws ≡ map (λ s. Some s) rs = cc in
      rw (one, all_read ws rs rest) refl

  none_behind : (o : Option (ℕ × ℕ)) → option_and_then (λ run. option_map (λ runs. run ∷ runs) None) o ≡ None
  none_behind None = refl
  none_behind (Some run) = refl

  one_unread : (ws : List (List ℕ)) → Any (λ w. f w ≡ None) ws → read_all f ws ≡ None
  one_unread [] any = absurd (omega (arith, any.2))
  one_unread (w ∷ ws) (zero, v, inside, at, none) = let here : f w ≡ None = ap f at ∙ none in rw here refl
  one_unread (w ∷ ws) (suc k, v, inside, at, none) = rw (one_unread ws (k, v, omega arith, at, none)) (none_behind (f w))

pub moves_said : (ws : List (List ℕ)) (rs : List (ℕ × ℕ)) → SpellMoves ws rs → true ≡ (nat_lt 0 (length rs) && list_all is_short rs) →
    schedule_in ws ≡ Some (Plain (Steps rs))
moves_said ws rs spells can =
    ap (λ (o : Option plain.Order). option_map Plain o) (ap (option_and_then steps_of) (all_read moves_in ws rs spells) ∙ ap
    (λ (b : Bool). if b then Some (Steps rs) else None) (sym can))

pub moves_refused : (ws : List (List ℕ)) (rs : List (ℕ × ℕ)) → SpellMoves ws rs → false ≡ (nat_lt 0 (length rs) && list_all is_short rs) →
    schedule_in ws ≡ None
moves_refused ws rs spells can =
    ap (λ (o : Option plain.Order). option_map Plain o) (ap (option_and_then steps_of) (all_read moves_in ws rs spells) ∙ ap
    (λ (b : Bool). if b then Some (Steps rs) else None) (sym can))

pub some_runs : (rs : List (ℕ × ℕ)) → true ≡ (nat_lt 0 (length rs) && list_all is_short rs) → 0 < length rs
some_runs rs can = ltb-true 0 (length rs) (and_parts (nat_lt 0 (length rs)) (list_all is_short rs) (sym can)).0

pub none_said : (ws : List (List ℕ)) → SpellNoMoves ws → schedule_in ws ≡ None
none_said ws none = ap (λ (o : Option plain.Order). option_map Plain o) (ap (option_and_then steps_of) (one_unread moves_in ws none))

-- ---- CPUs
pub same_cpus : (runs : List (ℕ × ℕ)) (a b : ℕ) → ((c : ℕ) → nat_lt c a ≡ nat_lt c b) → are_cpus a runs ≡ are_cpus b runs
same_cpus [] a b same = refl
same_cpus (run ∷ runs) a b same =
    ap (λ (t : Bool). t && are_cpus a runs) (same (cpu_of run.0)) ∙ ap (λ (t : Bool). nat_lt (cpu_of run.0) b && t) (same_cpus runs a b same)

pub turns_named : (n : ℕ) (runs : List (ℕ × ℕ)) → plain_session.are_cpus n (turns_of runs) ≡ are_cpus n runs
turns_named n [] = refl
turns_named n (run ∷ runs) = ap (λ (t : Bool). nat_lt (cpu_of run.0) n && t) (turns_named n runs)
