use Rattle.std.proofs.Common.{◌≡◌, ◌≤◌}
use Rattle.std.specs.Prelude.{IfSome}
use Rattle.std.specs.Option.{option_copied}
use Rattle.bpf_lines.specs.Lines.{lines_behind, rest_size}
use Rattle.bpf_check.specs.Settings.{after_lines, settings_of}
use Rattle.bpf_check.specs.declared.settings.TheConstants.{MOST_STATES}
use Rattle.bpf_check.proofs.settings.settings_of.Given as goal

-- what lines before asked for, and what those that are left ask for
abbrev pub invariant-lines : goal.invariant-lines
invariant-lines l = record {
  value : after_lines l.settings (lines_behind (option_copied l.rest)) ≡ settings_of l.text;
  bound : IfSome l.settings.limit (λ n. n ≤ MOST_STATES);
}

abbrev pub decreases-lines : goal.decreases-lines
decreases-lines l = rest_size (option_copied l.rest)
