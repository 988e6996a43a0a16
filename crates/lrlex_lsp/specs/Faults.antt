-- What is printed of a fault.
use Rattle.std.specs.Prelude.{ℕ, List, codes}
use Rattle.lrlex_lsp.specs.declared.languages.LanguageFault.{LanguageFault}
use Rattle.lrlex_lsp.specs.declared.languages.LanguageFault.TheVariants.{OutOfMemory, Rules}

abbrev pub language_fault_text : LanguageFault → List ℕ
language_fault_text OutOfMemory = codes "Out of memory"
language_fault_text (Rules faults) = codes "The rule text has faults"
