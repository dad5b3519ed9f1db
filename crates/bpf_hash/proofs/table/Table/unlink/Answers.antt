use Rattle.std.proofs.Common.{◌≡◌, ℕ, ◌+◌, ◌-◌, ◌*◌, ◌<◌, ◌≤◌, false, List, length, sym, ap, subst, ◌∙◌, arith}
use Rattle.std.proofs.lemmas.List.{get_or-set_other}
use Rattle.std.proofs.lemmas.Grind.{common_steps}
use Rattle.bpf_shared.specs.Shape.{elements}
use Rattle.bpf_hash.specs.declared.runs.Runs.{Runs}
use Rattle.bpf_hash.specs.Private.Rows.{Rows, ArePassed, HasCurrentAt, IsTable, key_of, linked_count, unlinked_row}
use Rattle.bpf_hash.specs.Private.Chains.{IsChainedAt}
use Rattle.bpf_hash.specs.Private.Index.{IsIndexed}
use Rattle.bpf_hash.proofs.Passing.{unlinked_passed}
use Rattle.bpf_hash.proofs.Blocks.{block_fits}
use Rattle.bpf_hash.proofs.Homes.{home_inside}
use Rattle.bpf_hash.proofs.Linking.{linked_inside, unlinked_table, count-less}
use Rattle.bpf_hash.proofs.Indexing.{unlinked_indexed}
use Rattle.bpf_hash.proofs.table.Table.unlink.Goals as goal

pub remove-requires : goal.remove-requires
remove-requires c =
    let t = c.args.self.now in
    let is : IsTable t = subst IsTable c.self.view_is c.self.invariant.0 in
    let indexed : IsIndexed t c.self.inside.index = subst (λ (r : Rows). IsIndexed r c.self.inside.index) c.self.view_is c.self.invariant.1.0 in
    record {
      element = subst (λ (n : ℕ). IsChainedAt c.self.inside.index n c.args.element) (sym c.requires.home) (indexed.found c.args.element c.requires.linked);
      home = subst (λ (n : ℕ). c.args.home < n) (sym indexed.homes) (home_inside t is (key_of t c.args.element) c.args.home c.requires.home);
    }

pub note_runs_at-requires : goal.note_runs_at-requires
note_runs_at-requires c =
    let t = c.args.self.now in
    let e = c.args.element in
    let is : IsTable t = subst IsTable c.self.view_is c.self.invariant.0 in
    let fits : e * t.cpus + t.cpus ≤ elements t.shape * t.cpus = block_fits e (elements t.shape) t.cpus (linked_inside t is e c.requires.linked) in
    let left : length c.deref_mut.result.now ≡ length t.left = ap (length {A = ℕ}) c.deref_mut.ensures.value ∙ ap
    (λ (r : Rows). length r.left) c.self.view_is in
    subst (λ (n : ℕ). e * n + n ≤ length c.deref_mut.result.now) (sym c.requires.runs) (omega (arith, is.left))

pub invariant_of-self : goal.invariant_of-self
invariant_of-self c =
    let t = c.args.self.now in
    let e = c.args.element in
    let runs = c.args.runs.now in
    let is : IsTable t = subst IsTable c.self.view_is c.self.invariant.0 in
    let made : ◌≡◌ {A = Rows} _ (unlinked_row runs e t) = grind (arith, common_steps) in
    let indexed : IsIndexed t c.self.inside.index = subst (λ (r : Rows). IsIndexed r c.self.inside.index) c.self.view_is c.self.invariant.1.0 in
    let counted : c.self.inside.count ≡ linked_count t = c.self.invariant.1.1 ∙ ap linked_count c.self.view_is in
    let fewer : linked_count (unlinked_row runs e t) + 1 ≡ linked_count t = count-less runs t is e c.requires.linked c.requires.runs in
    let count : c.self.inside.count - 1 ≡ linked_count (unlinked_row runs e t) = omega arith in (
      subst IsTable (sym made) (unlinked_table runs t is e c.requires.linked c.requires.runs),
      (
        subst (λ (r : Rows). IsIndexed r c.remove.new.self) (sym made)
            (unlinked_indexed runs t is e c.requires.linked c.requires.runs c.self.inside.index c.remove.new.self indexed c.remove.ensures),
        subst (λ (r : Rows). c.self.inside.count - 1 ≡ linked_count r) (sym made) count,
      ),
      λ i l.
          (let lower = c.min-self-inside.ensures in
          let below : i < c.self.inside.filled = omega (arith, lower) in
          get_or-set_other c.self.inside.linked.items e i false false (λ q. (let s : i ≡ e = q in omega (arith, lower))) ∙ c.self.invariant.2 i below),
      c.self.invariant.3,
      (let seen : List Runs = c.self.inside.seen.items in
          let m : ℕ = c.passed_without-self-inside.result in
          let same : length seen ≡ t.cpus = c.self.invariant.3 ∙ ap (λ (r : Rows). r.cpus) c.self.view_is in
          let left : c.deref.result.now ≡ (unlinked_row runs e t).left = c.deref.ensures.value ∙ ap (λ (r : Rows). r.left) made in
          let first : e * length runs ≡ e * t.cpus = ap (λ (n : ℕ). e * n) c.requires.runs in
          let passed : ArePassed seen t c.self.inside.passed = subst (λ (r : Rows). ArePassed seen r c.self.inside.passed) c.self.view_is c.self.invariant.4 in
          subst (λ (r : Rows). ArePassed seen r m) (sym made) (unlinked_passed seen runs t is e c.requires.linked c.requires.runs same
          c.self.inside.passed m passed c.passed_without-self-inside.ensures.below (λ l.
          let h : HasCurrentAt c.deref.result.now (e * length runs) c.deref-2.result.now = c.passed_without-self-inside.ensures.kept l in
          subst (λ (n : ℕ). HasCurrentAt (unlinked_row runs e t).left n seen) first
          (subst (λ (ns : List ℕ). HasCurrentAt ns (e * length runs) seen) left
          (subst (λ (s : List Runs). HasCurrentAt c.deref.result.now (e * length runs) s) c.deref-2.ensures.value h))))),
    )

pub returns-clause-table : goal.returns-clause-table
returns-clause-table c =
    let t = c.args.self.now in
    let is : IsTable t = subst IsTable c.self.view_is c.self.invariant.0 in
    let made : ◌≡◌ {A = Rows} _ (unlinked_row c.args.runs.now c.args.element t) = grind (arith, common_steps) in
    (is, subst IsTable (sym made) (unlinked_table c.args.runs.now t is c.args.element c.requires.linked c.requires.runs))
