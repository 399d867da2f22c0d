-- One word of a gate is changed, and the others stay.
use Rattle.std.proofs.Common.{◌≡◌, ℕ, ◌<◌, ◌⊎◌, inl, inr, List, get_or, set, length, ap, sym, ◌∙◌, subst, arith}
use Rattle.std.proofs.Math.ListN.{length-set}
use Rattle.std.proofs.lemmas.Bool.{cases_eq}
use Rattle.std.proofs.lemmas.List.{get_or-set_same, get_or-set_other, set-get_or}
use Rattle.percpu_words.specs.SharedWord.{SharedWord, spelling}
use Rattle.percpu_core.specs.declared.slot.Slot.{Slot}
use Rattle.percpu_core.specs.declared.slot.Slot.TheVariants.{Closed}
use Rattle.percpu_core.specs.Cells.{Cells, slot_at, slot_spelling}
use Rattle.percpu_gate.specs.declared.rule.GateKey.{GateKey}
use Rattle.percpu_gate.specs.Layout.{shared_place, front_place, word_place, slot_place, Spell}
use Rattle.percpu_gate.specs.Rule.{Spelled}

module _ (k : GateKey) (ws : List ℕ) (c : Cells) (z : Spelled k ws c) where
  -- a word that stands elsewhere stays
  beside : (at j n : ℕ) → (j ≡ at → ⊥) → get_or (set ws at n) j 0 ≡ get_or ws j 0
  beside at j n apart = get_or-set_other ws at j n 0 apart

  pub shared_written : (s : SharedWord) (n : ℕ) → n ≡ spelling s → Spell (set ws shared_place n) (record c { shared = s })
  shared_written s n is = let size = z.size in let few = z.few in let guarded = z.guarded in record {
    shared = get_or-set_same ws shared_place n 0 (omega arith) ∙ is;
    front = beside shared_place front_place n (λ e. omega arith) ∙ z.words.front;
    words = λ j h. beside shared_place (word_place j) n (λ e. omega arith) ∙ z.words.words j h;
    slots = λ i h. beside shared_place (slot_place i) n (λ e. omega arith) ∙ z.words.slots i h;
  }

  pub front_written : (n : ℕ) → Spell (set ws front_place n) (record c { front = n })
  front_written n = let size = z.size in let few = z.few in let guarded = z.guarded in record {
    shared = beside front_place shared_place n (λ e. omega arith) ∙ z.words.shared;
    front = get_or-set_same ws front_place n 0 (omega arith);
    words = λ j h. beside front_place (word_place j) n (λ e. omega arith) ∙ z.words.words j h;
    slots = λ i h. beside front_place (slot_place i) n (λ e. omega arith) ∙ z.words.slots i h;
  }

  -- a word that is stored as it was changes nothing
  pub nothing_written : (at : ℕ) → Spell (set ws at (get_or ws at 0)) c
  nothing_written at = subst (λ (xs : List ℕ). Spell xs c) (sym (set-get_or ws at 0)) z.words

  -- a guarded word, whose place no slot has
  pub word_written : (j v : ℕ) → j < length c.words → Spell (set ws (word_place j) v) (record c { words = set c.words j v })
  word_written j v there = let size = z.size in let few = z.few in let guarded = z.guarded in record {
    shared = beside (word_place j) shared_place v (λ e. omega arith) ∙ z.words.shared;
    front = beside (word_place j) front_place v (λ e. omega arith) ∙ z.words.front;
    words = λ i h. at_word i h (cases_eq i j);
    slots = λ i h. beside (word_place j) (slot_place i) v (λ e. omega arith) ∙ z.words.slots i h;
  }
    where
      at_word : (i : ℕ) → i < length (set c.words j v) → (i ≡ j) ⊎ (i ≡ j → ⊥) → get_or (set ws (word_place j) v) (word_place i) 0 ≡ get_or (set c.words j v) i 0
      at_word i h (inl e) = let size = z.size in let few = z.few in let guarded = z.guarded in ap (λ (x : ℕ). get_or (set ws (word_place j) v) (word_place x) 0) e ∙ get_or-set_same ws (word_place j) v 0 (omega arith)
          ∙ sym (get_or-set_same c.words j v 0 there) ∙ ap (λ (x : ℕ). get_or (set c.words j v) x 0) (sym e)
      at_word i h (inr n) = let long = length-set c.words j v in beside (word_place j) (word_place i) v (λ e. n (omega arith)) ∙ z.words.words i (omega arith) ∙ sym (get_or-set_other c.words j i v 0 n)

  -- a slot, whose place no guarded word has
  pub slot_written : (j : ℕ) (t : Slot) (n : ℕ) → j < length c.slots → n ≡ slot_spelling t → Spell (set ws (slot_place j) n) (record c { slots = set c.slots j t })
  slot_written j t n there is = let size = z.size in let few = z.few in let guarded = z.guarded in let slots = z.slots in record {
    shared = beside (slot_place j) shared_place n (λ e. omega arith) ∙ z.words.shared;
    front = beside (slot_place j) front_place n (λ e. omega arith) ∙ z.words.front;
    words = λ i h. beside (slot_place j) (word_place i) n (λ e. omega arith) ∙ z.words.words i h;
    slots = λ i h. at_slot i h (cases_eq i j);
  }
    where
      at_slot : (i : ℕ) → i < length (set c.slots j t) → (i ≡ j) ⊎ (i ≡ j → ⊥) → get_or (set ws (slot_place j) n) (slot_place i) 0 ≡ slot_spelling (slot_at (set c.slots j t) i)
      at_slot i h (inl e) = let size = z.size in let slots = z.slots in ap (λ (x : ℕ). get_or (set ws (slot_place j) n) (slot_place x) 0) e ∙ get_or-set_same ws (slot_place j) n 0 (omega arith) ∙ is
          ∙ ap slot_spelling (sym (get_or-set_same c.slots j t Closed there) ∙ ap (λ (x : ℕ). get_or (set c.slots j t) x Closed) (sym e))
      at_slot i h (inr other) = let long = length-set c.slots j t in beside (slot_place j) (slot_place i) n (λ e. other (omega arith)) ∙ z.words.slots i (omega arith)
          ∙ ap slot_spelling (sym (get_or-set_other c.slots j i t Closed other))
