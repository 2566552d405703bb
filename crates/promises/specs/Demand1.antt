-- Demand 1, sentence by sentence, and the line that says it.
-- "Every public call ends with an answer for all input, hostile counts and short metadata included": `calls`, a theorem of each public
-- call's own code. That the answer is one and no other: `results`.
-- "A refusal is a number and a place from document 01's table": `every_call`, with `occurs`; of the calls for C, `abi_calls`.
-- "and lent buffers then hold what they held": `buffer_kept` in `every_call`, and `numbers_kept`, `bytes_kept` in `abi_calls`. 01 adds that
-- "success touches only the bytes reported": `buffers`.
-- That what stands on paper for a walk is no cut-off of it: `walks`. `demand1` in proofs/Demand1.antt proves all of it. Assumes nothing.
use Rattle.promises.specs.Calls.{Calls}
use Rattle.promises.specs.Refusals.{EveryCall}
use Rattle.promises.specs.Occurs.{Occurs}
use Rattle.promises.specs.Buffers.{Buffers}
use Rattle.promises.specs.Abi.{AbiCalls}
use Rattle.promises.specs.Walks.{Walks}
use Rattle.promises.specs.Results.{EveryResult}

pub record Demand1 : Type 2 where
  -- each public call ends, whatever it is lent, and answers what its contract says
  pub calls : Calls
  -- which refusals each public call gives, and at which places; a refusal leaves the buffer
  pub every_call : EveryCall
  -- no line of these lists is there for nothing
  pub occurs : Occurs
  -- which refusals the calls give that programs in C make, and what a refusal leaves of what they lent
  pub abi_calls : AbiCalls
  -- "Success touches only the bytes reported"
  pub buffers : Buffers
  -- a walk on paper never runs out of steps, so none ends early by its form
  pub walks : Walks
  -- "any two results it allows are proved equal"
  pub results : EveryResult
