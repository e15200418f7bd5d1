mod SeenSteps
