-- Names that stand for numbers of helpers: the numbers and the longer names are those of
-- bpf-helpers(7), the shorter names our own choice.
use Rattle.std.specs.Prelude.{ℕ, Bool, ◌||◌, List, find, Option, codes}
use Rattle.std.specs.Str.{bytes_eq}
use Rattle.bpf_spelling.specs.declared.helpers.Helper.{Helper}
use Rattle.bpf_spelling.specs.declared.helpers.Helper.TheVariants as helper
use Rattle.bpf_spelling.specs.declared.helpers.TheConstants.{HELPERS}

abbrev pub helper_number : Helper → ℕ
helper_number helper.Lookup = 1
helper_number helper.Update = 2
helper_number helper.Delete = 3
helper_number helper.ProcessorId = 8
helper_number helper.Time = 5
helper_number helper.Trace = 6
helper_number helper.Random = 7
helper_number helper.Process = 14
helper_number helper.User = 15
helper_number helper.Lock = 93
helper_number helper.Unlock = 94
helper_number helper.BootTime = 125

abbrev pub helper_text : Helper → List ℕ
helper_text helper.Lookup = codes "bpf_map_lookup_elem"
helper_text helper.Update = codes "bpf_map_update_elem"
helper_text helper.Delete = codes "bpf_map_delete_elem"
helper_text helper.ProcessorId = codes "bpf_get_smp_processor_id"
helper_text helper.Time = codes "bpf_ktime_get_ns"
helper_text helper.Trace = codes "bpf_trace_printk"
helper_text helper.Random = codes "bpf_get_prandom_u32"
helper_text helper.Process = codes "bpf_get_current_pid_tgid"
helper_text helper.User = codes "bpf_get_current_uid_gid"
helper_text helper.Lock = codes "bpf_spin_lock"
helper_text helper.Unlock = codes "bpf_spin_unlock"
helper_text helper.BootTime = codes "bpf_ktime_get_boot_ns"

abbrev pub short_text : Helper → List ℕ
short_text helper.Lookup = codes "lookup"
short_text helper.Update = codes "update"
short_text helper.Delete = codes "delete"
short_text helper.ProcessorId = codes "cpu"
short_text helper.Time = codes "ktime_get_ns"
short_text helper.Trace = codes "trace_printk"
short_text helper.Random = codes "get_prandom_u32"
short_text helper.Process = codes "get_current_pid_tgid"
short_text helper.User = codes "get_current_uid_gid"
short_text helper.Lock = codes "spin_lock"
short_text helper.Unlock = codes "spin_unlock"
short_text helper.BootTime = codes "ktime_get_boot_ns"

-- the helper has this name
abbrev pub is_called : Helper → List ℕ → Bool
is_called h name = bytes_eq (helper_text h) name || bytes_eq (short_text h) name

-- the helper of this name
unfoldable pub helper_named : List ℕ → Option Helper
helper_named name = find (λ h. is_called h name) HELPERS
