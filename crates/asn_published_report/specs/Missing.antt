-- What is told of a module that is imported from and not given.
use Rattle.std.specs.Prelude.{◌++◌, ℕ, List, codes, flat_map, string_bytes}
use Rattle.std.specs.Borrow.{Bor}
use Rattle.std.specs.Fmt.{decimal}
use Rattle.asn_published_report.specs.declared.missing.MissingImport.{MissingImport}
use Rattle.asn_published_report.specs.Telling.{file_named, quoted}

-- the line `FILE:LINE: MODULE: a module that is not given`
abbrev pub import_line : List (Bor (List ℕ)) → MissingImport → List ℕ
import_line files one = file_named files one.text ++ (codes ":" ++ (decimal one.line ++ (codes ": "
    ++ (string_bytes one.module ++ codes ": a module that is not given\n"))))

-- the lines of all of them
abbrev pub imports_lines : List (Bor (List ℕ)) → List MissingImport → List ℕ
imports_lines files all = flat_map (import_line files) all

-- what is told of an import as an object of JSON on a line
unfoldable pub import_object : List ℕ → List ℕ → ℕ → List ℕ
import_object name file line = codes "{\"import\":" ++ (name ++ (codes ",\"file\":" ++ (file ++ (codes ",\"line\":"
    ++ (decimal line ++ codes ",\"status\":\"not given\"}\n")))))

-- an import as such an object
abbrev pub import_json : List (Bor (List ℕ)) → MissingImport → List ℕ
import_json files one = import_object (quoted (string_bytes one.module)) (quoted (file_named files one.text)) one.line

-- all of them as JSON
abbrev pub imports_json : List (Bor (List ℕ)) → List MissingImport → List ℕ
imports_json files all = flat_map (import_json files) all
