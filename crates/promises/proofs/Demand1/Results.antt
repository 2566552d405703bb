-- No contract leaves a choice of answer: each says that the result equals what the definition says of the arguments, alone or beside what
-- it says of the bytes that are left. And the Model of each cursor over a list gives the cursor back from its place. Assumes nothing.
use mathlib.Core.Path.{◌≡◌, sym, ◌∙◌, ap, refl}
use mathlib.Core.Logic.{∥∥₁_elim}
use Rattle.std.specs.Prelude.{ℕ, Some}
use seplogic.Ra.Ura.{Ura}
use base.Logic.{SProp, ent, id⊢, via}
use contract.Monad.{conj, conj_l, conj_r, fact, fact_i, fact_use}
use Rattle.wire.specs.Outcome.{Outcome, ok, refused}
use Rattle.table_map.specs.Lists.{Stepped, end}
use Rattle.table_map.specs.declared.list.Integers.TheView.{inverse as integers_at}
use Rattle.table_map.specs.declared.list.Pairs.TheView.{inverse as pairs_at}
use Rattle.table_map.specs.declared.list.Strings.TheView.{inverse as strings_at}
use Rattle.table_map.specs.declared.list.Groups.TheView.{inverse as groups_at}
use Rattle.promises.specs.Results.{Apart, step_seen, charset_seen, EveryResult}

-- two results that equal a third
same :
    {M : Type 1} (𝓤 : Ura M) {P Q : SProp 𝓤} {A : Type 0} {x r r' : A} →
    ent 𝓤 P (fact 𝓤 (r ≡ x)) → ent 𝓤 Q (fact 𝓤 (r' ≡ x)) → ent 𝓤 (conj 𝓤 P Q) (fact 𝓤 (r ≡ r'))
same 𝓤 {P} {Q} {A} {x} {r} {r'} h k =
    fact_use 𝓤 (r ≡ x) (via 𝓤 P (conj_l 𝓤 P Q) h)
    (λ e. fact_use 𝓤 (r' ≡ x) (via 𝓤 Q (conj_r 𝓤 P Q) k)
    (λ e'. fact_i 𝓤 (r ≡ r') (conj 𝓤 P Q) (e ∙ sym e')))

-- the two parts of a contract that says a fact and a second thing, of what is held at m
abbrev Parts : {M : Type 1} (𝓤 : Ura M) → Type 0 → (M → M → M → Type 1) → (M → Type 1) → M → Type 1
Parts {M} 𝓤 φ met left m = (n : M) × (k : M) × met m n k × (fact 𝓤 φ).holds n × left k

-- the first of them, wherever the contract holds
first :
    {M : Type 1} (𝓤 : Ura M) {P : SProp 𝓤} {φ : Type 0} {met : M → M → M → Type 1} {left : M → Type 1} →
    ((m : M) → P.holds m → ∥ Parts 𝓤 φ met left m ∥₁) → ent 𝓤 P (fact 𝓤 φ)
first 𝓤 {P} {φ} h = record {
  apply = λ m p. ∥∥₁_elim (h m p) ((fact 𝓤 φ).holds_prop m)
      (λ s. ∥∥₁_elim s.3 ((fact 𝓤 φ).holds_prop m) (λ t. (fact_i 𝓤 φ P t.0).apply m p));
}

-- two results that are each equal to what the definition says
alone :
    {M : Type 1} (𝓤 : Ura M) {A : Type 0} {x r r' : A} →
    ent 𝓤 (conj 𝓤 (fact 𝓤 (r ≡ x)) (fact 𝓤 (r' ≡ x))) (fact 𝓤 (r ≡ r'))
alone 𝓤 {A} {x} {r} {r'} = same 𝓤 (id⊢ 𝓤 (fact 𝓤 (r ≡ x))) (id⊢ 𝓤 (fact 𝓤 (r' ≡ x)))

-- and where the contract says a second thing
beside :
    {M : Type 1} (𝓤 : Ura M) (P Q : SProp 𝓤) {A : Type 0} {x r r' : A} {met : M → M → M → Type 1} {left left' : M → Type 1} →
    ((m : M) → P.holds m → ∥ Parts 𝓤 (r ≡ x) met left m ∥₁) → ((m : M) → Q.holds m → ∥ Parts 𝓤 (r' ≡ x) met left' m ∥₁) →
    ent 𝓤 (conj 𝓤 P Q) (fact 𝓤 (r ≡ r'))
beside 𝓤 P Q h k = same 𝓤 (first 𝓤 h) (first 𝓤 k)

-- a view with a way back
by_back : {A B : Type 0} (view : A → B) (back : B → A) → ((a : A) → back (view a) ≡ a) → Apart view
by_back view back h a b e = sym (h a) ∙ (ap back e ∙ h b)

step_back :
    {A C D : Type 0} (view : C → D) (back : D → C) → ((c : C) → back (view c) ≡ c) →
    (a : Outcome (Stepped A C)) → step_seen back (step_seen view a) ≡ a
step_back view back h (ok end) = refl
step_back view back h (ok (Some (a, next))) = ap (λ c. ok (Some (a, c))) (h next)
step_back view back h (refused w) = refl

charset_back :
    {C D : Type 0} (view : C → D) (back : D → C) → ((c : C) → back (view c) ≡ c) →
    (a : Outcome (ℕ × C)) → charset_seen back (charset_seen view a) ≡ a
charset_back view back h (ok (charset, pairs)) = ap (λ c. ok (charset, c)) (h pairs)
charset_back view back h (refused w) = refl

step_apart : {A C D : Type 0} {view : C → D} (back : D → C) → ((c : C) → back (view c) ≡ c) → Apart (step_seen {A = A} view)
step_apart {view} back h = by_back (step_seen view) (step_seen back) (step_back view back h)

charset_apart : {C D : Type 0} {view : C → D} (back : D → C) → ((c : C) → back (view c) ≡ c) → Apart (charset_seen view)
charset_apart {view} back h = by_back (charset_seen view) (charset_seen back) (charset_back view back h)

pub results : EveryResult
results M 𝓤 𝓛 mem returns = record {
  reach = λ _ _ _ _ _ _ _ _. alone 𝓤;
  packed = (
    λ _ _ _ _ _ _ _ _. alone 𝓤,
    λ _ _ _ _ _ _ _ _. alone 𝓤,
  );
  written = (
    λ _ _ _ _ _ _ _ _. beside 𝓤 _ _ (λ _ p. p) (λ _ p. p),
    λ _ _ _ _ _ _ _ _. beside 𝓤 _ _ (λ _ p. p) (λ _ p. p),
    λ _ _ _ _ _ _ _ _. beside 𝓤 _ _ (λ _ p. p) (λ _ p. p),
    λ _ _ _ _ _ _ _ _. beside 𝓤 _ _ (λ _ p. p) (λ _ p. p),
    λ _ _ _ _ _ _ _ _. beside 𝓤 _ _ (λ _ p. p) (λ _ p. p),
    λ _ _ _ _ _ _ _ _. beside 𝓤 _ _ (λ _ p. p) (λ _ p. p),
    λ _ _ _ _ _ _ _ _. beside 𝓤 _ _ (λ _ p. p) (λ _ p. p),
    λ _ _ _ _ _ _ _ _. beside 𝓤 _ _ (λ _ p. p) (λ _ p. p),
    λ _ _ _ _ _ _ _ _. beside 𝓤 _ _ (λ _ p. p) (λ _ p. p),
    λ _ _ _ _ _ _ _ _. beside 𝓤 _ _ (λ _ p. p) (λ _ p. p),
    λ _ _ _ _ _ _ _ _. beside 𝓤 _ _ (λ _ p. p) (λ _ p. p),
    λ _ _ _ _ _ _ _ _. beside 𝓤 _ _ (λ _ p. p) (λ _ p. p),
  );
  temporal = (
    λ _ _ _ _ _ _ _ _. alone 𝓤,
    λ _ _ _ _ _ _ _ _. alone 𝓤,
    λ _ _ _ _ _ _ _ _. alone 𝓤,
    λ _ _ _ _ _ _ _ _. alone 𝓤,
    λ _ _ _ _ _ _ _ _. alone 𝓤,
  );
  value = (
    λ _ _ _ _ _ _ _ _. alone 𝓤,
    λ _ _ _ _ _ _ _ _. alone 𝓤,
    λ _ _ _ _ _ _ _ _. alone 𝓤,
  );
  size = (
    λ _ _ _ _ _ _ _ _. alone 𝓤,
    λ _ _ _ _ _ _ _ _. alone 𝓤,
    λ _ _ _ _ _ _ _ _. alone 𝓤,
  );
  made = λ _ _ _ _ _ _ _ _. alone 𝓤;
  event = λ _ _ _ _ _ _ _ _. alone 𝓤;
  field = λ _ _ _ _ _ _ _ _. alone 𝓤;
  integer = (
    λ _ _ _ _ _ _ _ _. alone 𝓤,
    step_apart integers_at (λ _. refl),
  );
  pair = (
    λ _ _ _ _ _ _ _ _. alone 𝓤,
    step_apart pairs_at (λ _. refl),
  );
  string = (
    λ _ _ _ _ _ _ _ _. alone 𝓤,
    step_apart strings_at (λ _. refl),
  );
  group = (
    λ _ _ _ _ _ _ _ _. alone 𝓤,
    step_apart groups_at (λ _. refl),
  );
  cut = λ _ _ _ _ _ _ _ _. alone 𝓤;
  judged = λ _ _ _ _ _ _ _ _. alone 𝓤;
  charset = (
    λ _ _ _ _ _ _ _ _. alone 𝓤,
    charset_apart pairs_at (λ _. refl),
  );
  item = λ _ _ _ _ _. λ _ _ _ _ _ _ _ _. alone 𝓤;
  integer_item = λ _ _ _ _ _ _ _ _. alone 𝓤;
  pair_item = λ _ _ _ _ _ _ _ _. alone 𝓤;
  string_item = λ _ _ _ _ _ _ _ _. alone 𝓤;
  group_item = λ _ _ _ _ _ _ _ _. alone 𝓤;
  columns = λ _ _ _ _ _ _ _ _. alone 𝓤;
  name = λ _ _ _ _ _ _ _ _. alone 𝓤;
  names = λ _ _ _ _ _ _ _ _. alone 𝓤;
  head = λ _ _ _ _ _ _ _ _. alone 𝓤;
  first = λ _ _ _ _ _ _ _ _. alone 𝓤;
  step = λ _ _ _ _ _ _ _ _. alone 𝓤;
  end = λ _ _ _ _ _ _ _ _. alone 𝓤;
  put = (
    λ _ _ _ _ _ _ _ _. beside 𝓤 _ _ (λ _ p. p) (λ _ p. p),
    λ _ _ _ _ _ _ _ _. beside 𝓤 _ _ (λ _ p. p) (λ _ p. p),
  );
  room = λ _ _ _ _ _ _ _ _. alone 𝓤;
  planned = λ _ _ _ _ _ _ _ _. beside 𝓤 _ _ (λ _ p. p) (λ _ p. p);
  row_step = λ _ _ _ _ _ _ _ _. alone 𝓤;
  run = λ _ _ _ _ _ _ _ _. beside 𝓤 _ _ (λ _ p. p) (λ _ p. p);
  item_put = λ _ _ _ _ _ _ _ _. beside 𝓤 _ _ (λ _ p. p) (λ _ p. p);
  rows = λ _ _ _ _ _ _ _ _. alone 𝓤;
  image = λ _ _ _ _ _ _ _ _. alone 𝓤;
  begun = λ _ _ _ _ _ _ _ _. alone 𝓤;
  given = λ _ _ _ _ _ _ _ _. beside 𝓤 _ _ (λ _ p. p) (λ _ p. p);
  closed = λ _ _ _ _ _ _ _ _. alone 𝓤;
}
