use Rattle.std.proofs.Common.{◌≡◌, ℕ, ◌≤◌, List, [], length, map, get_or, subst, ap, sym, ◌∙◌}
use Rattle.std.specs.Prelude.{Vec}
use Rattle.std.specs.declared.alloc.Global.{Global}
use Rattle.std.proofs.lemmas.List.{get_or_past}
use Rattle.std.proofs.lemmas.Result.{IfOk-weaker}
use Rattle.bpf_hash.specs.Private.Rows.{Rows, no_rows}
use Rattle.bpf_hash.specs.Private.Contents.{Contents, rows, IsStore}
use Rattle.bpf_shared.specs.Listing.{pair_of, listed}
use Rattle.bpf_hash.specs.Private.Pairs.{AreRowPairs}
use Rattle.bpf_hash.specs.Shows.{Lists}
use Rattle.bpf_hash.proofs.Listing.{lists, no_pairs}
use Rattle.bpf_hash.proofs.store.HashStore.dump.Goals as goal

pub returns-in-Some : goal.returns-in-Some
returns-in-Some c =
    let p = c.args.self.now in
    let m = c.args.map in
    let is : IsStore p = subst IsStore c.self.view_is c.self.invariant in
    let tables : c.deref.result.now ≡ p.tables = c.deref.ensures.value ∙ ap (λ (q : Contents). q.tables) c.self.view_is in
    let row : c.in-Some.table.now ≡ rows p m = c.in-Some.ensures.lookup.3.1 no_rows ∙ ap (λ (ts : List Rows). get_or ts m no_rows) tables in
    record {
      listed = IfOk-weaker c.pairs.result (λ v. AreRowPairs c.in-Some.table.now (map pair_of v.items)) (λ v. Lists p m (listed v.items))
          (λ v e. lists p is m (listed v.items) (subst (λ (t : Rows). AreRowPairs t (listed v.items)) row e)) c.pairs.ensures.pairs;
    }

pub returns-in-None : goal.returns-in-None
returns-in-None c =
    let p = c.args.self.now in
    let m = c.args.map in
    let is : IsStore p = subst IsStore c.self.view_is c.self.invariant in
    let tables : c.deref.result.now ≡ p.tables = c.deref.ensures.value ∙ ap (λ (q : Contents). q.tables) c.self.view_is in
    let past : length p.tables ≤ m = subst (λ (ts : List Rows). length ts ≤ m) tables c.in-None.ensures.lookup.3 in
    let none : rows p m ≡ no_rows = get_or_past p.tables m no_rows past in
    let empty : listed c.new.result.items ≡ [] = ap (λ (vs : List (Vec ℕ Global × Vec ℕ Global)). listed vs) c.new.ensures.items in
    record {
      listed = lists p is m (listed c.new.result.items) (subst (λ (t : Rows). AreRowPairs t (listed c.new.result.items)) (sym none)
          (no_pairs (listed c.new.result.items) empty));
    }
