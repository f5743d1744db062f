use Rattle.std.proofs.Common.{[], ◌∷◌, string_bytes, sym, ◌∙◌, ap, subst}
use Rattle.workload_program.specs.declared.plan.TheConstants.{MAX_TRANSACTIONS}
use Rattle.workload_program.specs.Arguments.{IsNumberTo}
use Rattle.workload_program.proofs.FourWords.{if_none, are_four, numbers_of}
use Rattle.workload_program.proofs.words.read_words.Goals as goal

pub returns-in_err-batches-clause-none : goal.returns-in_err-batches-clause-none
returns-in_err-batches-clause-none c =
    if_none c.from_residual-in_err-batches.result (λ plan asked.
    let four = are_four string_bytes c.args.words.now c.name-item.result c.batches-item.result
    c.transactions-item.result c.in-len4.len_at_least c.in-len4.len_below c.name-item.is c.batches-item.is
    c.transactions-item.is in
    let numbers = numbers_of plan _ _ _ _ _ four.1 asked in
    c.in_err-batches.ensures.none plan.batches
    (subst (λ text. IsNumberTo c.from.result text plan.batches) (sym c.deref-2.ensures)
    (subst (λ most. IsNumberTo most (string_bytes c.batches-item.result) plan.batches) (sym c.from.ensures)
    numbers.0)))

pub returns-in_err-transactions-clause-none : goal.returns-in_err-transactions-clause-none
returns-in_err-transactions-clause-none c =
    if_none c.from_residual-in_err-transactions.result (λ plan asked.
    let four = are_four string_bytes c.args.words.now c.name-item.result c.batches-item.result
    c.transactions-item.result c.in-len4.len_at_least c.in-len4.len_below c.name-item.is c.batches-item.is
    c.transactions-item.is in
    let numbers = numbers_of plan _ _ _ _ _ four.1 asked in
    c.in_err-transactions.ensures.none plan.transactions
    (subst (λ text. IsNumberTo MAX_TRANSACTIONS text plan.transactions) (sym c.deref-3.ensures) numbers.1))

pub returns-clause-plan : goal.returns-clause-plan
returns-clause-plan c =
    let four = are_four string_bytes c.args.words.now c.name-item.result c.batches-item.result
    c.transactions-item.result c.in-len4.len_at_least c.in-len4.len_below c.name-item.is c.batches-item.is
    c.transactions-item.is in
    let batches = string_bytes c.batches-item.result in
    let transactions = string_bytes c.transactions-item.result in
    let named = sym c.deref.ensures ∙ c.in_ok-shape.ensures.shape in
    record {
      program = four.0;
      batches = batches;
      transactions = transactions;
      words = four.1 ∙ ap (λ name. four.0 ∷ name ∷ batches ∷ transactions ∷ []) named;
      batch_count = subst (λ most. IsNumberTo most batches c.in_ok-batches.batches) c.from.ensures
          (subst (λ text. IsNumberTo c.from.result text c.in_ok-batches.batches) c.deref-2.ensures
          c.in_ok-batches.ensures.number);
      txn_count = subst (λ text. IsNumberTo MAX_TRANSACTIONS text c.in_ok-transactions.transactions) c.deref-3.ensures
          c.in_ok-transactions.ensures.number;
    }
