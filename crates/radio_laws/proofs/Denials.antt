-- What is denied, and by which rule; what is allowed happens.
-- Read GrantedLemmas first, then DenialLemmas and ServiceLemmas.
pub mod GrantedLemmas
pub mod DenialLemmas
pub mod DeniedLemmas
pub mod LimitDenials
pub mod ListenerDenials
pub mod ServiceLemmas
pub mod StopLemmas
