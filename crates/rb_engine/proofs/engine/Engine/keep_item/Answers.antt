use Rattle.rb_engine.proofs.engine.Engine.keep_item.Goals as goal

pub invariant_of-self : goal.invariant_of-self
invariant_of-self c = let (opened, kept, up_to) = c.self.invariant in (opened, c.ask.ensures _ _ _ _ kept, up_to)

pub invariant_of-self-in-First : goal.invariant_of-self-in-First
invariant_of-self-in-First c = let (opened, kept, up_to) = c.self.invariant in (opened, c.ask.ensures _ _ _ _ kept, up_to)

pub invariant_of-self-in-Again : goal.invariant_of-self-in-Again
invariant_of-self-in-Again c = let (opened, kept, up_to) = c.self.invariant in (opened, c.ask.ensures _ _ _ _ kept, up_to)
