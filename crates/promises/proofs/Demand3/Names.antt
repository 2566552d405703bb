-- The names of columns: the list that is looked at, and the names of a map that the check accepts. Assumes nothing.
use Prim.Native.Nat.{ℕ}
use mathlib.Core.Path.{◌≡◌, ◌∙◌}
use mathlib.Core.List.{List}
use Rattle.wire.specs.Outcome.{Outcome}
use Rattle.wire.specs.declared.part.Part.{Part}
use Rattle.map_check.specs.Names.{string_at}
use Rattle.map_check.proofs.NameLaws.NameLooks.{laid_found, laid_ended, laid_broken, looks_names, looks_operator}
use Rattle.map_check.proofs.NameLaws.Naming.{accepted_known, accepted_named}
use Rattle.promises.specs.Names.{LooksIn, Named}

looks_in : (list : List ℕ) (name : ℕ → Outcome Part) → ((j : ℕ) → name j ≡ string_at j j list 0) → LooksIn list name
looks_in list name h = record {
  string = λ b j l. h j ∙ laid_found b j j l;
  ended = λ b j l. h j ∙ laid_ended b j j l;
  broken = λ b l e j m. h j ∙ laid_broken b l e j j m;
}

pub named : Named
named = record {
  in_names = λ names operator h. looks_in names _ (λ j. looks_names names operator j h);
  in_operator = λ operator. looks_in operator _ (λ j. looks_operator operator j);
  known = accepted_known;
  each = accepted_named;
}
