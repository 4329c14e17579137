-- How a program ends that stops before its work is done.
use Rattle.std.specs.Prelude.{ℕ}
use Rattle.asn_module_files.specs.declared.stop.Stop.{Stop}
use Rattle.asn_module_files.specs.declared.stop.Stop.TheVariants as stop

-- the exit status where the program stops before its work is done
abbrev pub stop_status : Stop → ℕ
stop_status (stop.Unread file) = 3
stop_status (stop.NotText file line column) = 2
stop_status (stop.Notation file line wrong) = 2
stop_status (stop.NotOfProfile why) = 2
stop_status (stop.Unserved words) = 2
stop_status (stop.NoType name) = 2
stop_status (stop.TooLarge most name) = 2
stop_status stop.Read = 3
stop_status stop.Write = 3
stop_status stop.Closed = 141
stop_status stop.Memory = 3
