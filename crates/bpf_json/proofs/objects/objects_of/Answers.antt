use Rattle.std.proofs.Common.{rules, String, Global, string_bytes, subst, sym, ◌∙◌}
use Rattle.bpf_json.specs.Lines.{AreObjectsOf}
use Rattle.bpf_json.proofs.Telling.{told_more, told_all, told_last, none_left}
use Rattle.bpf_json.proofs.objects.objects_of.Goals.{then-not-is_empty+in_ok-push_object-2, else-not-is_empty}
use Rattle.bpf_json.proofs.objects.objects_of.Goals as goal

pub lines-preserved : goal.lines-preserved
lines-preserved c = (
  search rules,
  told_more c.args.known.now c.args.text.now c.lines.rest.now c.in-Some.line.now c.in-Some.behind.now
      (string_bytes c.lines.objects) (string_bytes c.push_object.new.objects) c.lines.invariant.1 c.in-Some.ensures c.in_ok-push_object.ensures,
)

pub returns : goal.returns
returns c = elim c.if-not-is_empty.branch [
  | then-not-is_empty+in_ok-push_object-2 w ↦
      subst (λ (s : String Global). AreObjectsOf c.args.known.now c.args.text.now (string_bytes s)) (sym w.objects-is)
      (told_last c.args.known.now c.args.text.now c.lines.rest.now (string_bytes c.lines.objects)
      (string_bytes w.push_object-then-not-is_empty.new.objects) c.lines.invariant.1 w.in_ok-push_object-2.ensures)
  | else-not-is_empty w ↦
      subst (λ (s : String Global). AreObjectsOf c.args.known.now c.args.text.now (string_bytes s)) (sym w.objects-is)
      (told_all c.args.known.now c.args.text.now c.lines.rest.now (string_bytes c.lines.objects) c.lines.invariant.1
      (none_left c.lines.rest.now (sym c.is_empty.ensures ∙ w.if-not-is_empty.false)))
]
