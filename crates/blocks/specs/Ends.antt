-- The call that ends the input. Assumes nothing.
use Rattle.std.specs.Prelude.{ℕ, cond, List, [], ◌∷◌, take, ltb}
use Rattle.wire.specs.Outcome.{Outcome, ok, refuse, after}
use Rattle.image.specs.Split.{Slot, slots_at}
use Rattle.blocks.specs.declared.state.Phase.{Phase}
use Rattle.blocks.specs.declared.state.Phase.TheVariants.{Open, Long, Closed}
use Rattle.blocks.specs.declared.state.Arriving.{Arriving}
use Rattle.blocks.specs.Fits.{is_fit}
use Rattle.blocks.specs.Gives.{head_carry}

-- 9 at the first column that is not NULL and not yet answered
unfoldable pub end_over : List Slot → ℕ → Outcome ℕ
end_over [] used = ok used
end_over (i ∷ is) used = cond i.null (end_over is used) (refuse 9 i.present.column)

unfoldable pub end_in : Phase → List ℕ → List ℕ → ℕ → Arriving → List ℕ → Outcome ℕ
unfolding slots_at end_over
end_in Open r p nb st carry =
    cond (ltb st.held nb) (refuse 9 0) (end_over (slots_at r p (take st.held carry) st.column) st.used)
end_in Long r p nb st carry = refuse 9 st.column
end_in Closed r p nb st carry = refuse 21 0

unfoldable pub ended_fit : List ℕ → List ℕ → ℕ → ℕ → Arriving → List ℕ → Outcome ℕ
unfolding is_fit end_in
ended_fit r p n nb st carry = cond (is_fit r p n nb st carry) (end_in st.phase r p nb st carry) (refuse 21 0)

unfoldable pub end_blocks : List ℕ → List ℕ → Arriving → List ℕ → Outcome ℕ
unfolding head_carry ended_fit
end_blocks r p st carry = after (head_carry r p carry) (λ h. ended_fit r p h.columns h.nulls st carry)
