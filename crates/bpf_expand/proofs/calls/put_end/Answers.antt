use Rattle.std.proofs.Common.{◌∙◌, [], List, ℕ, Vec, Global, ap, string_bytes, subst, sym}
use Rattle.bpf_names.specs.Names.{names_of}
use Rattle.bpf_expand.specs.declared.origin.Origin.{Origin}
use Rattle.bpf_expand.specs.Filter.{IsReportIn}
use Rattle.bpf_expand.specs.Parts.{EndsWith, LeadsTo, put}
use Rattle.bpf_expand.specs.Private.Traced.{AreLater}
use Rattle.bpf_expand.specs.State.{AreSuccessors, Host}
use Rattle.bpf_expand.proofs.Reporting.{all_ended}
use Rattle.bpf_expand.proofs.Tracing.{put_later}
use Rattle.bpf_expand.proofs.calls.put_end.Goals as goal

pub returns-clause-put : goal.returns-clause-put
returns-clause-put c =
    let h : Host = c.take.new.self.host in
    let m = c.take.new.self.machine in
    let bytes = c.args.bytes.now in
    let ended = subst (λ (x : Host). AreSuccessors x bytes []) (sym c.take.ensures.same) c.requires in
    let is = c.in_ok-take.ensures.taken c.if-not-branch.false in
    λ _. (
      string_bytes c.in_ok-report.report,
      (m, is, all_ended h bytes m is ended, c.in_ok-report.ensures),
      c.in_ok-put_report.ensures.ends ∙ ap (put c.args.found.now.ends) c.as_bytes.ensures.value,
    )

pub returns-clause-traced : goal.returns-clause-traced
returns-clause-traced c =
    let h : Host = c.take.new.self.host in
    let names = names_of c.args.names.now in
    let m = c.take.new.self.machine in
    let bytes = c.args.bytes.now in
    let old = c.args.found.now in
    let new = c.put_report.new.found in
    let report = c.as_bytes.result.now in
    let ended = subst (λ (x : Host). AreSuccessors x bytes []) (sym c.take.ensures.same) c.requires in
    let is = c.in_ok-take.ensures.taken c.if-not-branch.false in
    let told : IsReportIn h names bytes report = subst (IsReportIn h names bytes) (sym c.as_bytes.ensures.value)
    (m, is, all_ended h bytes m is ended, c.in_ok-report.ensures) in
    λ _ read first at start. (
      subst (λ (l : List (List ℕ)). AreLater (LeadsTo h read) first new.origins.items l) (sym c.put_report.ensures.known)
          (subst (λ (v : Vec Origin Global). AreLater (LeadsTo h read) first v.items old.known) (sym c.put_report.ensures.origins) start.0),
      put_later (EndsWith h names read) 0 c.args.number report old.numbers.items new.numbers.items old.ends new.ends c.in_ok-put_report.ensures.put
          (bytes, at, told) start.1,
    )
