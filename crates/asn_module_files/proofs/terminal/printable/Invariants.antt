use Rattle.std.proofs.Common.{◌≡◌, encode_utf8, flat_map, string_bytes}
use Rattle.asn_module_files.specs.Terminal.{printed}
use Rattle.asn_module_files.proofs.terminal.printable.Given as goal

-- the characters so far are written
abbrev pub invariant-loop-character : goal.invariant-loop-character
invariant-loop-character l = string_bytes l.out ≡ flat_map (λ c. encode_utf8 (printed c)) l.yielded
