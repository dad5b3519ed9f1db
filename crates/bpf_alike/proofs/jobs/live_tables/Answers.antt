use Rattle.std.proofs.Common.{◌≡◌, ◌∙◌, ◌+◌, ◌<◌, ◌∷◌, ◌++◌, [], ℕ, List, Some, length, length-append, refl, ap, sym, subst, arith}
use Rattle.std.specs.Prelude.{slice_get}
use Rattle.std.proofs.lemmas.Option.{slice_get_read, slice_get_within}
use Rattle.bpf_loader.specs.Loaded.{Loaded}
use Rattle.bpf_live.specs.Live.{IsLive, IsLiveTable, Table}
use Rattle.bpf_alike.specs.Worlds.{table_at}
use Rattle.bpf_machine.proofs.OneMore.{one_more}
use Rattle.bpf_alike.proofs.jobs.live_tables.Goals as goal

pub loop-number-preserved : goal.loop-number-preserved
loop-number-preserved c =
    let programs = c.args.programs.now in
    let number = c.loop-number.number in
    let old = c.loop-number.tables.items in
    let new = c.push.new.self.items in
    let table = c.in_ok-table.table in
    let read = c.index-programs-number.result in
    let items : new ≡ old ++ table ∷ [] = c.in_ok-push.ensures.items in
    let P : ℕ → Table → Type 0 = λ n t. (program : Loaded) → slice_get programs n ≡ Some program → IsLiveTable program.instructions t in
    let here : P number table = λ program at. (
    let there : slice_get programs number ≡ Some read = slice_get_read programs (length programs) number read refl (omega arith) c.index-programs-number.is in
    let two : Some read ≡ Some program = sym there ∙ at in
    let one : read ≡ program = cc in
    subst (λ (p : Loaded). IsLiveTable p.instructions table) one c.in_ok-table.ensures.right) in
    record {
      count = ap (length {A = Table}) items ∙ (length-append old (table ∷ []) ∙ ap (λ (n : ℕ). n + 1) c.loop-number.invariant.count);
      right = subst (λ (ts : List Table). (k : ℕ) → k < number + 1 → P k (table_at ts k)) (sym items)
          (one_more P [] old table number c.loop-number.invariant.count c.loop-number.invariant.right here);
      all = λ same. subst (λ (ts : List Table). (k : ℕ) → k < number + 1 → (pc r : ℕ) → IsLive (table_at ts k) pc r) (sym items)
          (one_more (λ n t. (pc r : ℕ) → IsLive t pc r) [] old table number c.loop-number.invariant.count (c.loop-number.invariant.all same)
          (c.in_ok-table.ensures.all same));
    }

pub returns-clause-right : goal.returns-clause-right
returns-clause-right c n program at =
    let inside = slice_get_within c.args.programs.now n program at in
    c.loop-number.invariant.right n (omega arith) program at

pub returns-clause-all : goal.returns-clause-all
returns-clause-all c same n pc r within = c.loop-number.invariant.all same n (omega arith) pc r
